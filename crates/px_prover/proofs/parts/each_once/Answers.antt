use Rattle.px_prover.proofs.Gathering.{once_start, once_next, once_end}
use Rattle.px_prover.proofs.parts.each_once.Goals as goal

pub loop-t-init : goal.loop-t-init
loop-t-init c = once_start c.args.terms.now c.new-kept.result c.new-kept.ensures

pub loop-t-preserved : goal.loop-t-preserved
loop-t-preserved c = once_next c.args.terms.now c.loop-t.kept c.in_ok-kept.kept c.loop-t.t-index c.t-item.result c.loop-t-test.true c.t-item.is c.loop-t.invariant c.in_ok-kept.ensures

pub returns : goal.returns
returns c = once_end c.args.terms.now c.loop-t.kept c.loop-t.t-index c.loop-t-test.false c.loop-t.invariant

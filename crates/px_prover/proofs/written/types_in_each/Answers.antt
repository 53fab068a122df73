use Rattle.px_prover.proofs.TypeLemmas.{there_start, there_next, there_end}
use Rattle.px_prover.proofs.written.types_in_each.Goals as goal

pub loop-ty-init : goal.loop-ty-init
loop-ty-init c = there_start c.new-types.result c.new-types.ensures

pub loop-ty-preserved : goal.loop-ty-preserved
loop-ty-preserved c = there_next c.args.whole.now c.loop-ty.ty-index c.ty-item.result c.loop-ty.types c.in_ok-more.more c.append.new.self c.loop-ty-test.true c.ty-item.is c.loop-ty.invariant c.in_ok-more.ensures c.in_ok-append.ensures

pub returns : goal.returns
returns c = there_end c.args.whole.now c.loop-ty.ty-index c.loop-ty.types c.loop-ty-test.false c.loop-ty.invariant

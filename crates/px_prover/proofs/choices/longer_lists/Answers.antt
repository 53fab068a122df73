use Rattle.px_prover.proofs.ChoiceLemmas.{longer_start, longer_next, longer_end}
use Rattle.px_prover.proofs.choices.longer_lists.Goals as goal

pub loop-number-init : goal.loop-number-init
loop-number-init c = longer_start c.args.lists.now c.new-longer.result c.new-longer.ensures

pub loop-number-preserved : goal.loop-number-preserved
loop-number-preserved c = longer_next c.loop-number.number c.args.lists.now c.loop-number.longer c.in_ok-more.more c.append.new.self c.loop-number.invariant c.in_ok-more.ensures c.in_ok-append.ensures

pub returns : goal.returns
returns c = longer_end c.args.count c.loop-number.number c.args.lists.now c.loop-number.longer c.loop-number.auto.number-end c.loop-number-test.false c.loop-number.invariant

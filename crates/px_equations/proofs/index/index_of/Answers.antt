use Rattle.px_equations.proofs.IndexSteps.{index_start, index_next, index_end}
use Rattle.px_equations.proofs.index.index_of.Goals as goal

pub loop-number-init : goal.loop-number-init
loop-number-init c = index_start c.new.result c.new-2.result c.new.ensures c.new-2.ensures

pub loop-number-preserved : goal.loop-number-preserved
loop-number-preserved c =
    index_next c.args.declared.now c.loop-number.number c.loop-number.index c.enter.new.index _ c.loop-number-test.true c.in_ok-enter.ensures
    c.loop-number.invariant

pub returns : goal.returns
returns c = index_end c.args.declared.now c.loop-number.number c.loop-number.index c.loop-number-test.false c.loop-number.invariant

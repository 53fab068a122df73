use Rattle.std.proofs.Common.{arith}
use Rattle.px_machine.proofs.CellSteps.{open_first, open_within, open_bound, open_more, open_end}
use Rattle.px_machine.proofs.cells.first_end.Goals as goal

pub loop-left-init : goal.loop-left-init
loop-left-init c = open_first c.args.cells.now c.requires.values c.requires.some

pub bounds-cells-at : goal.bounds-cells-at
bounds-cells-at c = open_within c.args.cells.now c.loop-left.at c.loop-left.left c.loop-left-test.true c.loop-left.invariant

pub overflow_add-left : goal.overflow_add-left
overflow_add-left c = let h = open_bound c.args.cells.now c.loop-left.at c.loop-left.left c.fields_of.result _ c.loop-left-test.true c.fields_of.ensures c.loop-left.invariant in omega arith

pub loop-left-preserved : goal.loop-left-preserved
loop-left-preserved c = open_more c.args.cells.now c.loop-left.at c.loop-left.left c.fields_of.result _ c.loop-left-test.true c.fields_of.ensures c.loop-left.invariant

pub returns : goal.returns
returns c = open_end c.args.cells.now c.loop-left.at c.loop-left.left c.loop-left-test.false c.requires.values c.requires.some c.loop-left.invariant

use Rattle.px_machine.proofs.PrintSteps.{printed_none, printed_more, printed_all}
use Rattle.px_machine.proofs.flat_value.FlatValue.print.Goals as goal

pub loop-cell-init : goal.loop-cell-init
loop-cell-init c = printed_none c.args.names.now c.args.self.now c.cells-cell-items.result.now c.new-text.result c.new-levels.result c.cells-cell-items.ensures c.new-text.ensures c.new-levels.ensures

pub loop-cell-preserved : goal.loop-cell-preserved
loop-cell-preserved c =
    printed_more c.args.names.now c.args.self.now c.cells-cell-items.result.now c.loop-cell.cell-index _ c.loop-cell.text c.loop-cell.levels c.print_cell.new.text c.print_cell.new.levels
    c.loop-cell-test.true c.in_ok-print_cell.ensures c.loop-cell.invariant

pub returns : goal.returns
returns c = printed_all c.args.names.now c.args.self.now c.cells-cell-items.result.now c.loop-cell.cell-index c.loop-cell.text c.loop-cell.levels c.loop-cell-test.false c.loop-cell.invariant

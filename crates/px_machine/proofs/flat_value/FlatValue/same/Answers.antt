use Rattle.px_machine.proofs.FlatSteps.{same_values}
use Rattle.px_machine.proofs.flat_value.FlatValue.same.Goals as goal

pub returns : goal.returns
returns c = same_values c.args.self.now c.args.other.now c.cells.result.now c.cells-2.result.now c.same_cells.result c.cells.ensures c.cells-2.ensures c.same_cells.ensures

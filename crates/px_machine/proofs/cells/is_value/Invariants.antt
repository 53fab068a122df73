use Rattle.px_machine.proofs.CellSteps.{IsCounted}
use Rattle.px_machine.proofs.cells.is_value.Given as goal

abbrev pub invariant-loop-at : goal.invariant-loop-at
invariant-loop-at l = IsCounted l.cells l.at l.values

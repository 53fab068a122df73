use Rattle.std.proofs.Common.{◌-◌, length}
use Rattle.px_machine.proofs.CellSteps.{IsOpen}
use Rattle.px_machine.proofs.cells.first_end.Given as goal

abbrev pub invariant-loop-left : goal.invariant-loop-left
invariant-loop-left l = IsOpen l.cells l.at l.left

abbrev pub decreases-loop-left : goal.decreases-loop-left
decreases-loop-left l = length l.cells - l.at

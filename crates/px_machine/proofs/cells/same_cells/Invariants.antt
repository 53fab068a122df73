use Rattle.std.proofs.Common.{◌≡◌, take}
use Rattle.px_machine.proofs.cells.same_cells.Given as goal

abbrev pub invariant-loop-at : goal.invariant-loop-at
invariant-loop-at l = take l.at l.ones ≡ take l.at l.others

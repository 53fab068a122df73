use Rattle.std.proofs.Common.{◌≡◌, ◌++◌, take}
use Rattle.px_machine.specs.Cells.{preorders}
use Rattle.px_machine.proofs.flat_value.FlatValue.make.Given as goal

abbrev pub invariant-loop-field : goal.invariant-loop-field
invariant-loop-field l = l.cells.items ≡ l.initial.cells.items ++ preorders (take l.field-index l.fields)

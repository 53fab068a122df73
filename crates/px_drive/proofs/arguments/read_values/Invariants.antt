use Rattle.std.proofs.Common.{take}
use Rattle.px_drive.specs.Arguments.{AreValuesOf}
use Rattle.px_drive.proofs.arguments.read_values.Given as goal

abbrev pub invariant-loop-number : goal.invariant-loop-number
invariant-loop-number l = AreValuesOf l.checked (take l.number l.types) (take l.number l.words) l.values

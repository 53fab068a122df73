use Rattle.std.proofs.Common.{◌≡◌, take}
use Rattle.px_scope.specs.Declaring.{constructor_names}
use Rattle.px_scope.proofs.programs.copy_names.Given as goal

abbrev pub invariant-loop-con : goal.invariant-loop-con
invariant-loop-con l = l.names ≡ constructor_names (take l.con-index l.cons)

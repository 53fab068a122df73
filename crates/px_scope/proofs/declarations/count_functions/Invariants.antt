use Rattle.std.proofs.Common.{◌≡◌, ◌≤◌, take}
use Rattle.px_scope.specs.Declaring.{function_count}
use Rattle.px_scope.proofs.declarations.count_functions.Given as goal

abbrev pub invariant-loop-param : goal.invariant-loop-param
invariant-loop-param l = (l.count ≡ function_count (take l.param-index l.params)) × (l.count ≤ l.param-index)

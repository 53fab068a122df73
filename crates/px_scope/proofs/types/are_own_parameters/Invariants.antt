use Rattle.std.proofs.Common.{◌≡◌, map, drop, string_bytes}
use Rattle.px_scope.specs.Rules.{lone_name, are_parameters}
use Rattle.px_scope.proofs.types.are_own_parameters.Given as goal

abbrev pub invariant-loop-ty : goal.invariant-loop-ty
invariant-loop-ty l = are_parameters (map lone_name (drop l.ty-index l.tys)) (map string_bytes l.left) ≡ are_parameters (map lone_name l.tys) (map string_bytes l.parameters)

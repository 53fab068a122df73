use Rattle.std.proofs.Common.{take}
use Rattle.px_scope.specs.Uses.{types_uses}
use Rattle.px_scope.specs.Numbers.{AreTypes}
use Rattle.px_scope.specs.Answers.{Fine}
use Rattle.px_scope.proofs.types.+types.Given as goal

abbrev pub invariant-resolve_types-loop-ty : goal.invariant-resolve_types-loop-ty
invariant-resolve_types-loop-ty l = Fine (types_uses l.text l.globals l.types (take l.ty-index l.tys)) (AreTypes l.globals l.types (take l.ty-index l.tys)) l.resolved

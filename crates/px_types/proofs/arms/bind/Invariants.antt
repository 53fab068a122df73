use Rattle.std.proofs.Common.{◌≡◌, ◌++◌, take}
use Rattle.px_terms.specs.Types.{tys_instance}
use Rattle.px_types.proofs.arms.bind.Given as goal

abbrev pub invariant-loop-ty : goal.invariant-loop-ty
invariant-loop-ty l = l.bound ≡ l.fn.bound ++ tys_instance l.fields.types.now (take l.ty-index l.ty-items)

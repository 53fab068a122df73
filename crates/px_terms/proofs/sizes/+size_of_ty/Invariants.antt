use Rattle.std.proofs.Common.{◌≡◌, take, min, ◌-◌, ◌^◌}
use Rattle.px_terms.specs.Types.{tys_size}
use Rattle.px_terms.proofs.sizes.+size_of_ty.Given as goal

abbrev pub invariant-size_of_tys-loop-ty : goal.invariant-size_of_tys-loop-ty
invariant-size_of_tys-loop-ty l = l.total ≡ min (tys_size (take l.ty-index l.types)) (2 ^ 64 - 1)

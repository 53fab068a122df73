use Rattle.std.proofs.Common.{◌≡◌, take, min, ◌-◌, ◌^◌}
use Rattle.px_terms.specs.Types.{tys_depth}
use Rattle.px_terms.proofs.depths.+depth_of_ty.Given as goal

abbrev pub invariant-depth_of_tys-loop-ty : goal.invariant-depth_of_tys-loop-ty
invariant-depth_of_tys-loop-ty l = l.deepest ≡ min (tys_depth (take l.ty-index l.types)) (2 ^ 32 - 1)

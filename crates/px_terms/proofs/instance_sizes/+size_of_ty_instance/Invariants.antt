use Rattle.std.proofs.Common.{◌≡◌, take, min, ◌-◌, ◌^◌}
use Rattle.px_terms.specs.Types.{tys_size, tys_instance}
use Rattle.px_terms.proofs.instance_sizes.+size_of_ty_instance.Given as goal

abbrev pub invariant-size_of_tys_instance-loop-ty : goal.invariant-size_of_tys_instance-loop-ty
invariant-size_of_tys_instance-loop-ty l = l.total ≡ min (tys_size (tys_instance l.types (take l.ty-index l.tys))) (2 ^ 64 - 1)

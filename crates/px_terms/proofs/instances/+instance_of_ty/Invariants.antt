use Rattle.std.proofs.Common.{◌≡◌, take}
use Rattle.px_terms.specs.Types.{tys_instance}
use Rattle.px_terms.proofs.instances.+instance_of_ty.Given as goal

abbrev pub invariant-instance_of_tys-loop-ty : goal.invariant-instance_of_tys-loop-ty
invariant-instance_of_tys-loop-ty l = l.done ≡ tys_instance l.types (take l.ty-index l.tys)

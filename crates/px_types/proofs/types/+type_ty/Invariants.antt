use Rattle.std.proofs.Common.{◌≡◌, drop}
use Rattle.px_types.specs.Outcome.{ty_found, tys_found}
use Rattle.px_types.proofs.Loops.{after}
use Rattle.px_types.proofs.types.+type_ty.Given as goal

abbrev pub invariant-type_tys-loop-raw : goal.invariant-type_tys-loop-raw
invariant-type_tys-loop-raw l = after l.types (tys_found l.program l.tparams (drop l.raw-index l.raws)) ≡ tys_found l.program l.tparams l.raws

use Rattle.std.proofs.Common.{◌↔◌, Contains, take}
use Rattle.px_terms.specs.declared.types.Ty.{Ty}
use Rattle.px_prover.specs.Places.{TypeStandsThere}
use Rattle.px_prover.proofs.written.types_in_each.Given as goal

abbrev pub invariant-loop-ty : goal.invariant-loop-ty
invariant-loop-ty l = (u : Ty) → Contains l.types u ↔ TypeStandsThere (take l.ty-index l.whole) u

use Rattle.std.proofs.Common.{take, All}
use Rattle.px_terms.specs.declared.types.Ty.{Ty}
use Rattle.px_terms.specs.Types.{ty_instance}
use Rattle.px_terms.specs.Sequents.{IsSmallType}
use Rattle.px_cases.proofs.small.are_small_instances.Given as goal

abbrev pub invariant-loop-field : goal.invariant-loop-field
invariant-loop-field l = All (λ (T : Ty). IsSmallType (ty_instance l.types T)) (take l.field-index l.fields)

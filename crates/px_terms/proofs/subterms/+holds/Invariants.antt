use Rattle.std.proofs.Common.{take}
use Rattle.px_terms.specs.Guards.{IsInField}
use Rattle.px_terms.proofs.subterms.+holds.Given as goal

abbrev pub invariant-is_in_field-loop-field : goal.invariant-is_in_field-loop-field
invariant-is_in_field-loop-field l = ¬ IsInField l.part (take l.field-index l.fields)

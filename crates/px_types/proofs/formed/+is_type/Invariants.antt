use Rattle.px_types.specs.TypeOf.{is_type}
use Rattle.px_types.proofs.TypeOfSteps.{AllSo}
use Rattle.px_types.proofs.formed.+is_type.Given as goal

abbrev pub invariant-are_types-loop-ty : goal.invariant-are_types-loop-ty
invariant-are_types-loop-ty l = AllSo (is_type l.program l.tparams) l.types l.ty-index

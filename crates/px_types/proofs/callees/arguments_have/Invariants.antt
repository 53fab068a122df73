use Rattle.std.proofs.Common.{map}
use Rattle.px_terms.specs.Types.{fn_type_instance}
use Rattle.px_types.specs.Bounds.{here}
use Rattle.px_types.proofs.TypeOfSteps.{FitSo}
use Rattle.px_types.proofs.callees.arguments_have.Given as goal

abbrev pub invariant-loop-index : goal.invariant-loop-index
invariant-loop-index l = FitSo (here l.scope) l.funs (map (fn_type_instance l.types) l.takes) l.index

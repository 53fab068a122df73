use Rattle.px_equations.proofs.FormedSteps.{TypesSo}
use Rattle.px_equations.proofs.formed.+is_type.Given as goal

abbrev pub invariant-are_types-loop-ty : goal.invariant-are_types-loop-ty
invariant-are_types-loop-ty l = TypesSo l.program l.tparams l.types l.ty-index

use Rattle.px_equations.proofs.KnownSteps.{IncludesSo}
use Rattle.px_equations.proofs.known.includes.Given as goal

abbrev pub invariant-loop-prop : goal.invariant-loop-prop
invariant-loop-prop l = IncludesSo l.set l.wanted l.prop-index

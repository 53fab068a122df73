use Rattle.px_types.proofs.TypeOfKnown.{IncludesSo}
use Rattle.px_types.proofs.knowledge.includes.Given as goal

abbrev pub invariant-loop-prop : goal.invariant-loop-prop
invariant-loop-prop l = IncludesSo l.set l.wanted l.prop-index

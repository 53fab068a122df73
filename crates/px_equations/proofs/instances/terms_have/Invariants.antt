use Rattle.px_equations.proofs.TermsSteps.{HaveSo}
use Rattle.px_equations.proofs.instances.terms_have.Given as goal

abbrev pub invariant-loop-index : goal.invariant-loop-index
invariant-loop-index l = HaveSo l.program l.filling.context.now l.filling.sigma.now.types l.filling.sigma.now.terms l.filling.clause.now.vars l.index

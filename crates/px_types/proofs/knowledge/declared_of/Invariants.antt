use Rattle.px_types.proofs.TypeOfKnown.{DeclaredSo}
use Rattle.px_types.proofs.knowledge.declared_of.Given as goal

abbrev pub invariant-loop-obligation : goal.invariant-loop-obligation
invariant-loop-obligation l = DeclaredSo l.number l.set l.program.declared l.obligation-index

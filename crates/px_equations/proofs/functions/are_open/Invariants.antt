use Rattle.px_equations.proofs.FunctionSteps.{OpenSo}
use Rattle.px_equations.proofs.functions.are_open.Given as goal

abbrev pub invariant-loop-index : goal.invariant-loop-index
invariant-loop-index l = OpenSo l.all l.number l.filling.context.now l.filling.sigma.now.types l.filling.sigma.now.funs l.filling.clause.now.funs l.index

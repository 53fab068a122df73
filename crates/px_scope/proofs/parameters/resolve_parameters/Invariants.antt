use Rattle.px_scope.proofs.ParameterSteps.{AreParametersSoFar}
use Rattle.px_scope.proofs.parameters.resolve_parameters.Given as goal

abbrev pub invariant-loop-param : goal.invariant-loop-param
invariant-loop-param l = AreParametersSoFar l.text l.globals l.fn.locals l.params l.param-index l.locals l.funs l.values

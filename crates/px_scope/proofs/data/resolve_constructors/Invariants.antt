use Rattle.px_scope.proofs.DataSteps.{AreConstructorsSoFar}
use Rattle.px_scope.proofs.data.resolve_constructors.Given as goal

abbrev pub invariant-loop-number : goal.invariant-loop-number
invariant-loop-number l = AreConstructorsSoFar l.text l.datatype l.fn.globals l.types l.cons l.number l.globals l.raws

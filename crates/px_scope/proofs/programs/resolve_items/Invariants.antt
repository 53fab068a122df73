use Rattle.px_scope.proofs.ProgramSteps.{AreItemsSoFar}
use Rattle.px_scope.proofs.programs.resolve_items.Given as goal

abbrev pub invariant-loop-item : goal.invariant-loop-item
invariant-loop-item l = AreItemsSoFar l.text l.item-index l.globals l.program

use Rattle.std.proofs.Common.{drop}
use Rattle.px_evaluate.proofs.Loops.{MeantOn}
use Rattle.px_evaluate.proofs.functions.all_meant.Given as goal

abbrev pub invariant-loop-fun : goal.invariant-loop-fun
invariant-loop-fun l = MeantOn l.scope.types.now l.scope.funs.now l.funs (drop l.fun-index l.funs) l.found

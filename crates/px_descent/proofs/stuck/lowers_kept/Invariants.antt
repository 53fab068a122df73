use Rattle.px_descent.specs.Around.{bound_of}
use Rattle.px_descent.proofs.Lowering.{NoneBelow}
use Rattle.px_descent.proofs.stuck.lowers_kept.Given as goal

abbrev pub invariant-loop-index : goal.invariant-loop-index
invariant-loop-index l = NoneBelow l.search.program.now l.search.def l.search.definition.now l.args (bound_of l.around) l.index

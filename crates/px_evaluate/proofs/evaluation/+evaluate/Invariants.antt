use Rattle.std.proofs.Common.{◌+◌, ◌*◌, drop, reverse}
use Rattle.px_evaluate.proofs.Loops.{Continues}
use Rattle.px_evaluate.proofs.evaluation.+evaluate.Given as goal

abbrev pub decreases-value_of : goal.decreases-value_of
decreases-value_of l = 3 * l.fuel

abbrev pub decreases-given : goal.decreases-given
decreases-given l = 3 * l.fuel + 1

abbrev pub decreases-all_values : goal.decreases-all_values
decreases-all_values l = 3 * l.fuel + 1

abbrev pub decreases-matched : goal.decreases-matched
decreases-matched l = 3 * l.fuel + 2

abbrev pub decreases-called : goal.decreases-called
decreases-called l = 3 * l.fuel + 2

abbrev pub invariant-all_values-loop-t : goal.invariant-all_values-loop-t
invariant-all_values-loop-t l = Continues l.fuel l.scope.program.now l.scope.types.now l.scope.funs.now l.scope.values.now (reverse l.scope.inner.now) l.terms
    (drop l.t-index l.terms) l.found l.calls

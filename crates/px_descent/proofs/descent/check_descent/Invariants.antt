use Rattle.px_descent.proofs.Ending.{DescendBefore}
use Rattle.px_descent.proofs.descent.check_descent.Given as goal

abbrev pub invariant-loop-number : goal.invariant-loop-number
invariant-loop-number l = DescendBefore l.program l.number

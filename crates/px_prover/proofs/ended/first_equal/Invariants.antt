use Rattle.std.proofs.Common.{◌≡◌}
use Rattle.px_terms.specs.declared.clause.Equation.{Equation}
use Rattle.px_prover.proofs.NoneSoFar.{NoneBelow}
use Rattle.px_prover.proofs.ended.first_equal.Given as goal

abbrev pub invariant-loop-number : goal.invariant-loop-number
invariant-loop-number l = NoneBelow (λ (e : Equation). e.left ≡ e.right) l.equations l.number

use Rattle.px_terms.specs.Rows.{HeadsClash}
use Rattle.px_terms.specs.declared.clause.Equation.{Equation}
use Rattle.px_prover.proofs.NoneSoFar.{NoneBelow}
use Rattle.px_prover.proofs.ended.first_clash.Given as goal

abbrev pub invariant-loop-number : goal.invariant-loop-number
invariant-loop-number l = NoneBelow (λ (e : Equation). HeadsClash e.left e.right) l.sequent.facts l.number

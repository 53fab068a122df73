use Rattle.std.proofs.Common.{◌≡◌}
use Rattle.px_terms.specs.declared.term.Term.{Term}
use Rattle.px_prover.proofs.NoneSoFar.{NoneBelow}
use Rattle.px_prover.proofs.parts.is_among.Given as goal

abbrev pub invariant-loop-other : goal.invariant-loop-other
invariant-loop-other l = NoneBelow (λ (u : Term). u ≡ l.t) l.terms l.other-index

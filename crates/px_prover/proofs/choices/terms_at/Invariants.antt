use Rattle.std.proofs.Common.{◌≡◌, ℕ, Some, slice_get, take}
use Rattle.std.specs.List.{AllZip}
use Rattle.px_terms.specs.declared.term.Term.{Term}
use Rattle.px_prover.proofs.choices.terms_at.Given as goal

abbrev pub invariant-loop-number : goal.invariant-loop-number
invariant-loop-number l = AllZip (λ (n : ℕ) (t : Term). slice_get l.candidates n ≡ Some t) (take l.number-index l.numbers) l.terms

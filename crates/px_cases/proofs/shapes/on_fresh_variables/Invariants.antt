use Rattle.std.proofs.Common.{◌≡◌, ℕ, map}
use Rattle.px_terms.specs.declared.term.Term.TheVariants as terms
use Rattle.px_terms.specs.Types.{numbers_from}
use Rattle.px_cases.proofs.shapes.on_fresh_variables.Given as goal

abbrev pub invariant-loop-place : goal.invariant-loop-place
invariant-loop-place l = l.fields ≡ map (λ (i : ℕ). terms.Free i) (numbers_from l.next l.place)

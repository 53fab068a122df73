use Rattle.std.proofs.Common.{◌≡◌, ℕ, map}
use Rattle.px_terms.specs.declared.term.Term.TheVariants as terms
use Rattle.px_terms.specs.Types.{numbers_from}
use Rattle.px_props.proofs.terms.variables.Given as goal

abbrev pub invariant-loop-number : goal.invariant-loop-number
invariant-loop-number l = l.made ≡ map (λ (i : ℕ). terms.Free i) (numbers_from 0 l.number)

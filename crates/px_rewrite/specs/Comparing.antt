-- What a comparison compares.
use Rattle.std.specs.Prelude.{◌≡◌, ℕ, List, [], ◌∷◌}
use Rattle.px_terms.specs.declared.term.Term.{Term, out-Term}
use Rattle.px_terms.specs.declared.term.Term.TheOpen.{Term-F}

-- The terms are these two literals.
pub record AreLiterals (args : List Term) (x y : ℕ) : Type 0 where
  pub first : Term
  pub second : Term
  pub two : args ≡ first ∷ second ∷ []
  pub first_is : out-Term first ≡ Term-F.Lit x
  pub second_is : out-Term second ≡ Term-F.Lit y

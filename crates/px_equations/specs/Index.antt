-- The index of the obligations: by what is declared, the number of the first obligation that declares it.
use Rattle.std.specs.Prelude.{◌≡◌, ◌↔◌, ◌<◌, ◌+◌, ◌*◌, ◌^◌, ℕ, List, Some, slice_get, get_or}
use Rattle.px_base.specs.declared.prop.Prop.{Prop}
use Rattle.px_base.specs.PropSets.{prop_number}
use Rattle.px_terms.specs.declared.program.Declared.{Declared}
use Rattle.px_terms.specs.declared.program.Declared.TheVariants as declared
use Rattle.px_equations.specs.declared.index.TheConstants.{NO_NUMBER}
use Rattle.px_equations.specs.declared.index.Index.{Index}

-- the number at a place
abbrev pub number_at : List ℕ → ℕ → ℕ
number_at numbers place = get_or numbers place NO_NUMBER

-- a definition's properties stand side by side
abbrev pub place_of : ℕ → Prop → ℕ
place_of n p = n * 11 + prop_number p

-- the first number that the index gives of what is declared
abbrev pub first_in : Index → Declared → ℕ
first_in index (declared.Property n p) = number_at index.properties (place_of n p)
first_in index (declared.Lemma i) = number_at index.lemmas i

-- It is declared by an obligation of a number below n.
pub record IsBelow (all : List Declared) (n : ℕ) (d : Declared) : Type 0 where
  pub number : ℕ
  pub below : number < n
  pub stands : slice_get all number ≡ Some d

-- The first number of what is declared is right: it is below n exactly where that is declared below n.
pub record IsIndex (all : List Declared) (index : Index) : Type 0 where
  pub first : (d : Declared) (n : ℕ) → n < 2 ^ 32 → (first_in index d < n) ↔ IsBelow all n d

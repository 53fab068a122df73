-- Why there is no child, and what is asked of one before it is built.
use Rattle.std.specs.Prelude.{◌≡◌, ℕ, ◌+◌, ◌≤◌, List, length, All}
use Rattle.px_terms.specs.declared.types.Ty.{Ty}
use Rattle.px_terms.specs.declared.term.Term.{Term}
use Rattle.px_terms.specs.declared.clause.Equation.{Equation}
use Rattle.px_terms.specs.declared.sequent.Present.{Present}
use Rattle.px_terms.specs.declared.sequent.Sequent.{Sequent}
use Rattle.px_terms.specs.limits.TheConstants.{FACTS, VARIABLES}
use Rattle.px_terms.specs.Types.{tys_instance}
use Rattle.px_terms.specs.Terms.{term_put}
use Rattle.px_terms.specs.TreeEdits.{equation_put}
use Rattle.px_terms.specs.Sequents.{IsSmall, IsSmallEquation, IsSmallType, IsWithinLimits}
use Rattle.px_terms.specs.Rows.{HaveOneHead, pairs_equal, with_facts}
use Rattle.px_types.specs.declared.typings.NotTyped.{NotTyped}
use Rattle.px_types.specs.declared.typings.NotTyped.TheVariants as typings
use Rattle.px_cases.specs.declared.ends.SplitEnd.{SplitEnd}
use Rattle.px_cases.specs.declared.ends.SplitEnd.TheVariants as ends

-- what would be built is over the limits, or memory ran out
abbrev pub IsOversized : Type 0 → SplitEnd → Type 0
IsOversized Fits ends.Oversize = ¬ Fits
IsOversized Fits ends.NoMemory = Unit {0}
IsOversized Fits ends.NotData = ⊥
IsOversized Fits ends.IllTyped = ⊥
IsOversized Fits ends.NoSuchFact = ⊥
IsOversized Fits ends.NotSameHead = ⊥

-- the term has no type, or memory ran out
abbrev pub end_of : NotTyped → SplitEnd
end_of typings.IllTyped = ends.IllTyped
end_of typings.NoMemory = ends.NoMemory

-- There is room for a constructor's fields as fresh variables: few enough variables, each of a small type.
pub record HasRoom (next : ℕ) (args fields : List Ty) : Type 0 where
  pub few : next + length fields ≤ VARIABLES
  pub small : All IsSmallType (tys_instance args fields)

-- With the term put in for the variable, each term of the sequent is within the limits, and the facts are few enough.
pub record IsSmallPut (s : Sequent) (v : ℕ) (by : Term) : Type 0 where
  pub present : All (λ (p : Present). IsSmall (term_put v by p.term)) s.frame.entries
  pub facts : All (λ (e : Equation). IsSmallEquation (equation_put v by e)) s.facts
  pub alternatives : All (λ (e : Equation). IsSmallEquation (equation_put v by e)) s.alternatives
  pub few_facts : length s.facts ≤ FACTS

-- Both sides of the equation are one constructor, and the child is the sequent with the fields' equations as new last facts.
pub record IsAdded (s : Sequent) (e : Equation) (child : Sequent) : Type 0 where
  pub fields : List Term
  pub parts : List Term
  pub one_head : HaveOneHead e.left e.right fields parts
  pub is : child ≡ with_facts s (pairs_equal fields parts)

-- the sides are not one constructor, or the child is over the limits, or memory ran out
abbrev pub IsUneven : Sequent → Equation → SplitEnd → Type 0
IsUneven s e ends.NotSameHead = (child : Sequent) → ¬ IsAdded s e child
IsUneven s e ends.Oversize = (child : Sequent) × IsAdded s e child × ¬ IsWithinLimits child
IsUneven s e ends.NoMemory = Unit {0}
IsUneven s e ends.NotData = ⊥
IsUneven s e ends.IllTyped = ⊥
IsUneven s e ends.NoSuchFact = ⊥

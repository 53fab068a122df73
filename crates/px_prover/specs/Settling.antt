-- Settling a sequent: each fact once is normalised with the others, and then the alternatives with all.
use Rattle.std.specs.Prelude.{◌≡◌, ℕ, ◌+◌, List, [], ◌∷◌, map, Bool, true, false, Some, None, slice_get, slice_set}
use Rattle.px_terms.specs.declared.term.Term.{Term}
use Rattle.px_terms.specs.declared.clause.Equation.{Equation}
use Rattle.px_terms.specs.declared.program.Program.{Program}
use Rattle.px_terms.specs.Clauses.{equals}
use Rattle.px_terms.specs.Rows.{HeadsClash, HaveOneHead}
use Rattle.px_prover.specs.declared.branch.Branch.{Branch}
use Rattle.px_prover.specs.declared.limits.TheConstants.{UNITS}
use Rattle.px_prover.specs.Rooms.{whole_side}
use Rattle.px_prover.specs.Norms.{Normal, Norm, HasNorm}

-- the facts that are used, in order
abbrev pub facts_used : List Bool → List Equation → List Equation
facts_used [] facts = []
facts_used (true ∷ used) (e ∷ facts) = e ∷ facts_used used facts
facts_used (false ∷ used) (e ∷ facts) = facts_used used facts
facts_used used [] = []

-- the used facts of a branch
abbrev pub used_facts : Branch → List Equation
used_facts b = facts_used b.used b.sequent.facts

-- a fact with these sides says no more: they are one term, or one constructor
pub data IsIdle (l r : Term) : Type 0 where
  one_term : l ≡ r → IsIdle l r
  one_constructor : {fields parts : List Term} → HaveOneHead l r fields parts → IsIdle l r

-- Used fact i has these sides, normalised with the other used facts as they stand.
pub record FactBecomes (P : Program) (facts : List Equation) (used : List Bool) (i : ℕ) (l r : Term) : Type 0 where
  pub fact : Equation
  pub stands : slice_get facts i ≡ Some fact
  pub is_used : slice_get used i ≡ Some true
  pub left : HasNorm P (facts_used (slice_set used i false) facts) whole_side fact.left l
  pub right : HasNorm P (facts_used (slice_set used i false) facts) whole_side fact.right r

-- How settling ends: the branch is closed, or these are the facts, and whether each is still used.
pub data Settled : Type 0 where
  closed : Settled
  open_with : List Equation → List Bool → Settled

-- settling from fact i on: a fact whose heads clash closes the branch, and one that says no more is no longer used
pub data Settles (P : Program) : ℕ → List Equation → List Bool → Settled → Type 0 where
  all_settled : {i : ℕ} {facts : List Equation} {used : List Bool} {end : Settled} → slice_get facts i ≡ None → end ≡ open_with facts used → Settles P i facts used end
  passes : {i : ℕ} {facts : List Equation} {used : List Bool} {end : Settled} {e : Equation} → slice_get facts i ≡ Some e → slice_get used i ≡ Some false →
      Settles P (i + 1) facts used end → Settles P i facts used end
  clashes : {i : ℕ} {facts : List Equation} {used : List Bool} {end : Settled} {l r : Term} → FactBecomes P facts used i l r → HeadsClash l r → end ≡ closed →
      Settles P i facts used end
  idles : {i : ℕ} {facts : List Equation} {used : List Bool} {end : Settled} {l r : Term} → FactBecomes P facts used i l r → IsIdle l r →
      Settles P (i + 1) (slice_set facts i (equals l r)) (slice_set used i false) end → Settles P i facts used end
  says : {i : ℕ} {facts : List Equation} {used : List Bool} {end : Settled} {l r : Term} → FactBecomes P facts used i l r → ¬ HeadsClash l r → ¬ IsIdle l r →
      Settles P (i + 1) (slice_set facts i (equals l r)) used end → Settles P i facts used end

-- the branch settles so, from its first fact on
abbrev pub SettlesBranch : Program → Branch → Settled → Type 0
SettlesBranch P b = Settles P 0 b.sequent.facts b.used

-- The normal sides of an alternative.
pub record NormalSides : Type 0 where
  pub left : Normal
  pub right : Normal

-- the sides alone
abbrev pub sides : NormalSides → Equation
sides a = equals a.left.term a.right.term

-- these are the normal sides of the alternatives, each within all units
pub data AreNormalSides (P : Program) (facts : List Equation) : List Equation → List NormalSides → Type 0 where
  none : AreNormalSides P facts [] []
  more : {e : Equation} {es : List Equation} {a : NormalSides} {alternatives : List NormalSides} → Norm P facts whole_side UNITS e.left a.left →
      Norm P facts whole_side UNITS e.right a.right → AreNormalSides P facts es alternatives → AreNormalSides P facts (e ∷ es) (a ∷ alternatives)

-- The branch is not closed by settling: this is the branch with its facts settled and its alternatives normalised.
pub record IsReady (P : Program) (b ready : Branch) (alternatives : List NormalSides) : Type 0 where
  pub facts : List Equation
  pub used : List Bool
  pub settles : SettlesBranch P b (open_with facts used)
  pub normal : AreNormalSides P (facts_used used facts) b.sequent.alternatives alternatives
  pub is : ready ≡ record { sequent = record b.sequent { facts = facts; alternatives = map sides alternatives }; used = used }

-- Closing a pair of normal sides: it falls into leaf pairs, and each of them is closed by at most so many uses.
use Rattle.std.specs.Prelude.{◌≡◌, ◌≢◌, ℕ, suc, ◌+◌, ◌≤◌, List, [], ◌∷◌, ◌++◌, length, IsTrue, Some, slice_get, All}
use Rattle.px_terms.specs.declared.term.Term.{Term}
use Rattle.px_terms.specs.declared.clause.Equation.{Equation}
use Rattle.px_terms.specs.declared.clause.Clause.{Clause}
use Rattle.px_terms.specs.declared.program.Program.{Program}
use Rattle.px_terms.specs.Terms.{subterm, replaced}
use Rattle.px_terms.specs.Rows.{HeadsClash, HaveOneHead}
use Rattle.px_prover.specs.declared.limits.TheConstants.{LEAF_PAIRS}
use Rattle.px_prover.specs.Rooms.{Room, whole_side, leaf_room}
use Rattle.px_prover.specs.Norms.{HasNorm}
use Rattle.px_prover.specs.declared.branch.Branch.{Branch}
use Rattle.px_prover.specs.Settling.{used_facts}
use Rattle.px_prover.specs.Uses.{IsUse}

-- A use closes the branch: the sides of its conclusion come to distinct constructors or literals.
pub record UseCloses (P : Program) (n : ℕ) (own : Clause) (b : Branch) : Type 0 where
  pub conclusion : Equation
  pub use_of : IsUse P n own b conclusion
  pub left : Term
  pub right : Term
  pub left_is : HasNorm P (used_facts b) whole_side conclusion.left left
  pub right_is : HasNorm P (used_facts b) whole_side conclusion.right right
  pub clash : HeadsClash left right

-- an equation is read from left to right or from right to left
pub data Reads (e : Equation) (from to : Term) : Type 0 where
  to_right : from ≡ e.left → to ≡ e.right → Reads e from to
  to_left : from ≡ e.right → to ≡ e.left → Reads e from to

-- A use replaces one side of its conclusion by the other at one place of s, where there is room; t is what is normalised then.
pub record UseReplaces (P : Program) (n : ℕ) (own : Clause) (b : Branch) (room : Room) (s t : Term) : Type 0 where
  pub conclusion : Equation
  pub use_of : IsUse P n own b conclusion
  pub from : Term
  pub to : Term
  pub reads : Reads conclusion from to
  pub path : List ℕ
  pub stands : subterm s path ≡ Some from
  pub whole : Term
  pub becomes : replaced s path to ≡ Some whole
  pub fits : IsTrue (room whole)
  pub norm : HasNorm P (used_facts b) room whole t

-- the pair is closed by at most so many uses, one after the other: its sides are one term, or a use closes the branch, or a use
-- replaces in one of them, and the pair with that side normalised is closed by one use less
pub data Chain (P : Program) (n : ℕ) (own : Clause) (b : Branch) (left right : Room) : ℕ → Term → Term → Type 0 where
  one_term : {steps : ℕ} {s t : Term} → s ≡ t → Chain P n own b left right steps s t
  by_clash : {steps : ℕ} {s t : Term} → UseCloses P n own b → Chain P n own b left right (suc steps) s t
  on_left : {steps : ℕ} {s t now : Term} → UseReplaces P n own b left s now → Chain P n own b left right steps now t → Chain P n own b left right (suc steps) s t
  on_right : {steps : ℕ} {s t now : Term} → UseReplaces P n own b right t now → Chain P n own b left right steps s now → Chain P n own b left right (suc steps) s t

-- A leaf pair, at its place in both whole sides.
pub record LeafPair : Type 0 where
  pub path : List ℕ
  pub left : Term
  pub right : Term

mutual
  -- the leaf pairs of a pair: none where it is one term, those of its pairs of fields where it is one constructor, else itself
  pub data AreLeafPairs : List ℕ → Term → Term → List LeafPair → Type 0 where
    equal : {path : List ℕ} {s t : Term} {leaves : List LeafPair} → s ≡ t → leaves ≡ [] → AreLeafPairs path s t leaves
    fields : {path : List ℕ} {s t : Term} {fields parts : List Term} {leaves : List LeafPair} → s ≢ t → HaveOneHead s t fields parts →
        AreLeafPairsOfFields path 0 fields parts leaves → AreLeafPairs path s t leaves
    itself : {path : List ℕ} {s t : Term} {leaves : List LeafPair} → s ≢ t → ((fields parts : List Term) → ¬ HaveOneHead s t fields parts) →
        leaves ≡ record { path = path; left = s; right = t } ∷ [] → AreLeafPairs path s t leaves

  -- the leaf pairs of pairs of fields, from number i on
  pub data AreLeafPairsOfFields : List ℕ → ℕ → List Term → List Term → List LeafPair → Type 0 where
    no_field : {path : List ℕ} {i : ℕ} → AreLeafPairsOfFields path i [] [] []
    more_fields : {path : List ℕ} {i : ℕ} {s t : Term} {ss ts : List Term} {first others leaves : List LeafPair} → AreLeafPairs (path ++ i ∷ []) s t first →
        AreLeafPairsOfFields path (i + 1) ss ts others → leaves ≡ first ++ others → AreLeafPairsOfFields path i (s ∷ ss) (t ∷ ts) leaves

-- The leaf pair, one of so many, is closed by at most so many uses, within its room in the whole sides.
pub record LeafCloses (P : Program) (n : ℕ) (own : Clause) (b : Branch) (whole : Equation) (steps count : ℕ) (leaf : LeafPair) : Type 0 where
  pub chain : Chain P n own b (leaf_room count whole.left leaf.path leaf.left) (leaf_room count whole.right leaf.path leaf.right) steps leaf.left leaf.right

-- The pair at this path of the whole sides closes: it has few leaf pairs, and each of them closes.
pub record Closes (P : Program) (n : ℕ) (own : Clause) (b : Branch) (whole : Equation) (steps : ℕ) (path : List ℕ) (s t : Term) : Type 0 where
  pub leaves : List LeafPair
  pub are : AreLeafPairs path s t leaves
  pub few : length leaves ≤ LEAF_PAIRS
  pub each : All (LeafCloses P n own b whole steps (length leaves)) leaves

-- Some alternative of the branch closes.
pub record SomeCloses (P : Program) (n : ℕ) (own : Clause) (b : Branch) (steps : ℕ) : Type 0 where
  pub number : ℕ
  pub alternative : Equation
  pub stands : slice_get b.sequent.alternatives number ≡ Some alternative
  pub closes : Closes P n own b alternative steps [] alternative.left alternative.right

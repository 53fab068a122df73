-- Where a branch that does not close is blocked.
use Rattle.std.specs.Prelude.{◌≡◌, ℕ, ◌+◌, List, [], ◌∷◌, ◌++◌, Option, Some, None}
use Rattle.std.specs.Option.{option_or}
use Rattle.px_terms.specs.declared.term.Term.{Term}
use Rattle.px_terms.specs.declared.clause.Clause.{Clause}
use Rattle.px_terms.specs.declared.program.Program.{Program}
use Rattle.px_terms.specs.Rows.{HaveOneHead}
use Rattle.px_prover.specs.declared.branch.Branch.{Branch}
use Rattle.px_prover.specs.Settling.{NormalSides, sides}
use Rattle.px_prover.specs.Closing.{Closes}

mutual
  -- what the pair at this path of the alternative's sides is blocked at: where both are one constructor, what its first pair of fields
  -- that does not close is; else what its left side is blocked at, else its right side
  pub data BlocksAt (P : Program) (n : ℕ) (own : Clause) (b : Branch) (a : NormalSides) (steps : ℕ) : List ℕ → Term → Term → Option Term → Type 0 where
    in_fields : {path : List ℕ} {s t : Term} {fields parts : List Term} {u : Option Term} → HaveOneHead s t fields parts →
        BlocksInFields P n own b a steps path 0 fields parts u → BlocksAt P n own b a steps path s t u
    at_stop : {path : List ℕ} {s t : Term} {u : Option Term} → ((fields parts : List Term) → ¬ HaveOneHead s t fields parts) →
        u ≡ option_or (a.left.stops path) (a.right.stops path) → BlocksAt P n own b a steps path s t u

  -- what the first of the pairs of fields that does not close is blocked at, from number i on
  pub data BlocksInFields (P : Program) (n : ℕ) (own : Clause) (b : Branch) (a : NormalSides) (steps : ℕ) : List ℕ → ℕ → List Term → List Term → Option Term → Type 0 where
    no_field : {path : List ℕ} {i : ℕ} → BlocksInFields P n own b a steps path i [] [] None
    next_field : {path : List ℕ} {i : ℕ} {s t : Term} {ss ts : List Term} {u : Option Term} → Closes P n own b (sides a) steps (path ++ i ∷ []) s t →
        BlocksInFields P n own b a steps path (i + 1) ss ts u → BlocksInFields P n own b a steps path i (s ∷ ss) (t ∷ ts) u
    this_field : {path : List ℕ} {i : ℕ} {s t : Term} {ss ts : List Term} {u : Option Term} → ¬ Closes P n own b (sides a) steps (path ++ i ∷ []) s t →
        BlocksAt P n own b a steps (path ++ i ∷ []) s t u → BlocksInFields P n own b a steps path i (s ∷ ss) (t ∷ ts) u

-- this blocks the alternative
abbrev pub BlocksAlternative : Program → ℕ → Clause → Branch → ℕ → NormalSides → Option Term → Type 0
BlocksAlternative P n own b steps a = BlocksAt P n own b a steps [] a.left.term a.right.term

-- the blocker of a branch is that of its first alternative that has one
pub data IsBlocker (P : Program) (n : ℕ) (own : Clause) (b : Branch) (steps : ℕ) : List NormalSides → Term → Type 0 where
  this_one : {a : NormalSides} {alternatives : List NormalSides} {u : Term} → BlocksAlternative P n own b steps a (Some u) → IsBlocker P n own b steps (a ∷ alternatives) u
  next_one : {a : NormalSides} {alternatives : List NormalSides} {u : Term} → BlocksAlternative P n own b steps a None → IsBlocker P n own b steps alternatives u →
      IsBlocker P n own b steps (a ∷ alternatives) u

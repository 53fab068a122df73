-- The plain class: the obligations that the search must find, with so many splits and so many steps.
use Rattle.std.specs.Prelude.{◌≡◌, ℕ, suc, List, [], ◌∷◌, map, true, Some, slice_get}
use Rattle.px_terms.specs.declared.term.Term.{Term}
use Rattle.px_terms.specs.declared.clause.Equation.{Equation}
use Rattle.px_terms.specs.declared.clause.Clause.{Clause}
use Rattle.px_terms.specs.declared.program.Program.{Program}
use Rattle.px_terms.specs.declared.sequent.Sequent.{Sequent}
use Rattle.px_terms.specs.Obligations.{IsObligation}
use Rattle.px_terms.specs.Sequents.{IsWithinLimits}
use Rattle.px_terms.specs.Derivations.{AreFrameVariables, begins_with}
use Rattle.px_terms.specs.Rows.{HeadsClash}
use Rattle.px_prover.specs.declared.branch.Branch.{Branch}
use Rattle.px_prover.specs.Settling.{NormalSides, SettlesBranch, closed, IsReady}
use Rattle.px_prover.specs.Closing.{SomeCloses}
use Rattle.px_prover.specs.Blocking.{IsBlocker}
use Rattle.px_prover.specs.Splitting.{Splits}

mutual
  -- the branch is found with this many splits: settling closes it, or an alternative closes, or its blocker is split and each of
  -- the branches is found with one split less
  pub data IsFound (P : Program) (n : ℕ) (own : Clause) (steps : ℕ) : ℕ → Branch → Type 0 where
    settled : {splits : ℕ} {b : Branch} → SettlesBranch P b closed → IsFound P n own steps splits b
    closes : {splits : ℕ} {b ready : Branch} {alternatives : List NormalSides} → IsReady P b ready alternatives → SomeCloses P n own ready steps →
        IsFound P n own steps splits b
    divided : {splits : ℕ} {b ready : Branch} {alternatives : List NormalSides} {u : Term} {branches : List Branch} → IsReady P b ready alternatives →
        IsBlocker P n own ready steps alternatives u → Splits P n own ready u branches → AreFound P n own steps splits branches → IsFound P n own steps (suc splits) b

  -- each branch is found with this many splits
  pub data AreFound (P : Program) (n : ℕ) (own : Clause) (steps : ℕ) : ℕ → List Branch → Type 0 where
    none : {splits : ℕ} → AreFound P n own steps splits []
    more : {splits : ℕ} {b : Branch} {branches : List Branch} → IsFound P n own steps splits b → AreFound P n own steps splits branches →
        AreFound P n own steps splits (b ∷ branches)

-- a branch with all facts used
abbrev pub all_used : Sequent → Branch
all_used s = record { sequent = s; used = map (λ (e : Equation). true) s.facts }

-- the sequent is closed as it stands: the heads of a fact clash, or an alternative's sides are one term
pub data IsClosedAtOnce (s : Sequent) : Type 0 where
  by_fact : {e : Equation} (i : ℕ) → slice_get s.facts i ≡ Some e → HeadsClash e.left e.right → IsClosedAtOnce s
  by_alternative : {e : Equation} (j : ℕ) → slice_get s.alternatives j ≡ Some e → e.left ≡ e.right → IsClosedAtOnce s

-- the first sequent is found; over the limits nothing is done in it
pub data IsFoundFrom (P : Program) (n : ℕ) (own : Clause) (splits steps : ℕ) (s : Sequent) : Type 0 where
  within : IsWithinLimits s → IsFound P n own steps splits (all_used s) → IsFoundFrom P n own splits steps s
  beyond : ¬ IsWithinLimits s → IsClosedAtOnce s → IsFoundFrom P n own splits steps s

-- The obligation is plain: for some variables that the induction speaks of, its first sequent is found.
pub record Plain (P : Program) (n splits steps : ℕ) : Type 0 where
  pub clause : Clause
  pub obligation : IsObligation P n clause
  pub on : List ℕ
  pub variables : AreFrameVariables clause on
  pub found : IsFoundFrom P n clause splits steps (begins_with clause on)

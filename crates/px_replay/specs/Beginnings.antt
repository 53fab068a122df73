-- What a partial derivation is in trees: what the lines that a replay takes say, whatever states it goes through.
use Rattle.std.specs.Prelude.{◌≡◌, ℕ, ◌+◌, List, [], ◌∷◌, ◌++◌, length, map, slice_get, Some}
use Rattle.std.specs.List.{AllByRecursion}
use Rattle.px_terms.specs.declared.clause.Clause.{Clause}
use Rattle.px_terms.specs.declared.program.Program.{Program}
use Rattle.px_terms.specs.declared.sequent.Sequent.{Sequent}
use Rattle.px_terms.specs.declared.row.Row.{Row}
use Rattle.px_terms.specs.declared.row.Row.TheVariants as row
use Rattle.px_terms.specs.declared.row.Tree.{Tree}
use Rattle.px_terms.specs.Obligations.{IsObligation}
use Rattle.px_terms.specs.Derivations.{AreFrameVariables, begins_with, DerivesObligation, Leads}
use Rattle.px_derive.specs.Spelling.{line_of}
use Rattle.px_derive.specs.Spellable.{IsSpellable}
use Rattle.px_replay.specs.States.{rows_from}

-- The rows are none, or the header of obligation n, whose variables fit, and rows that leave something open of its first sequent.
pub data IsUnfinished (P : Program) (n : ℕ) : List Row → Type 0 where
  nothing : IsUnfinished P n []
  left_open : {clause : Clause} {on : List ℕ} {rows : List Row} {top : Sequent} {below : List Sequent} → IsObligation P n clause → AreFrameVariables clause on →
      Leads P n (begins_with clause on ∷ []) rows (top ∷ below) → IsUnfinished P n (row.Header n on ∷ rows)

-- The lines are those of trees that derive the obligations from this number on, in order, and then of one that is not finished, if any.
pub record BeginFrom (P : Program) (n : ℕ) (lines : List (List ℕ)) : Type 0 where
  pub trees : List Tree
  pub each : (i : ℕ) (tree : Tree) → slice_get trees i ≡ Some tree → DerivesObligation P (n + i) tree
  pub last : List Row
  pub unfinished : IsUnfinished P (n + length trees) last
  pub spellable : AllByRecursion (IsSpellable P.names) (rows_from n trees ++ last)
  pub are : lines ≡ map (line_of P.names) (rows_from n trees ++ last)

-- the lines begin a derivation: trees of the first obligations, and then maybe the header and the first rows of one more
abbrev pub BeginDerivation : Program → List (List ℕ) → Type 0
BeginDerivation P lines = BeginFrom P 0 lines

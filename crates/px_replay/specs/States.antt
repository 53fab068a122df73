-- What a replay knows of a derivation: which lines lead from a state to another, and when they are a whole derivation.
use Rattle.std.specs.Prelude.{◌≡◌, ℕ, ◌+◌, ◌-◌, List, [], ◌∷◌, ◌++◌, length, map}
use Rattle.std.specs.List.{AllByRecursion}
use Rattle.px_terms.specs.declared.clause.Clause.{Clause}
use Rattle.px_terms.specs.declared.program.Program.{Program}
use Rattle.px_terms.specs.declared.sequent.Sequent.{Sequent}
use Rattle.px_terms.specs.declared.row.Row.{Row}
use Rattle.px_terms.specs.declared.row.Row.TheVariants as row
use Rattle.px_terms.specs.declared.row.Tree.{Tree}
use Rattle.px_terms.specs.Obligations.{IsObligation}
use Rattle.px_terms.specs.Rows.{Opens}
use Rattle.px_terms.specs.Derivations.{AreFrameVariables, begins_with, IsDerivation}
use Rattle.px_derive.specs.Spelling.{line_of}
use Rattle.px_derive.specs.Spellable.{IsSpellable}

-- Where a replay stands: the number of the next obligation, and the sequents that are open in the one before it, the top first.
pub record State : Type 0 where
  pub next : ℕ
  pub stack : List Sequent

-- where a replay begins
abbrev pub start : State
start = record { next = 0; stack = [] }

-- The row is the header of the next obligation, and its variables are variables of the clause: the first sequent is open then.
pub record Begins (P : Program) (n : ℕ) (r : Row) (new : State) : Type 0 where
  pub own : Clause
  pub on : List ℕ
  pub header : r ≡ row.Header n on
  pub obligation : IsObligation P n own
  pub variables : AreFrameVariables own on
  pub is : new ≡ record { next = n + 1; stack = begins_with own on ∷ [] }

-- The row opens the top sequent in the obligation at hand: its children are open in its place.
pub record OpensTop (P : Program) (next : ℕ) (s : Sequent) (below : List Sequent) (r : Row) (new : State) : Type 0 where
  pub children : List Sequent
  pub opens : Opens P (next - 1) s r children
  pub is : new ≡ record { next = next; stack = children ++ below }

-- where nothing is open, a header moves on, and else a row of the tree
abbrev pub MovesFrom : Program → ℕ → List Sequent → Row → State → Type 0
MovesFrom P next [] r new = Begins P next r new
MovesFrom P next (s ∷ below) r new = OpensTop P next s below r new

-- the row leads from a state to another
abbrev pub Moves : Program → State → Row → State → Type 0
Moves P old r new = MovesFrom P old.next old.stack r new

-- The line is a row's, and the row leads from a state to another.
pub record LineMoves (P : Program) (old : State) (line : List ℕ) (new : State) : Type 0 where
  pub row : Row
  pub spellable : IsSpellable P.names row
  pub spelled : line ≡ line_of P.names row
  pub moves : Moves P old row new

-- the lines lead from a state to another, one after the other
pub data Lead (P : Program) : State → List (List ℕ) → State → Type 0 where
  stays : {state : State} → Lead P state [] state
  goes_on : {old now new : State} {line : List ℕ} {lines : List (List ℕ)} → LineMoves P old line now → Lead P now lines new →
      Lead P old (line ∷ lines) new

-- The lines are the text of a partial derivation: they lead somewhere. In trees: those of the first obligations, and then maybe
-- the header and the first rows of one more (`Beginnings`); nobody says that it can be completed.
pub record IsPartial (P : Program) (lines : List (List ℕ)) : Type 0 where
  pub state : State
  pub leads : Lead P start lines state

-- every obligation has its tree, and nothing is open
abbrev pub at_end : Program → State
at_end P = record { next = length P.declared; stack = [] }

-- the rows of trees, each after its header, from the obligation of this number on
abbrev pub rows_from : ℕ → List Tree → List Row
rows_from n [] = []
rows_from n (tree ∷ trees) = row.Header n tree.on ∷ (tree.rows ++ rows_from (n + 1) trees)

-- The lines are those of a derivation's trees, each after its header.
pub record IsDerivationText (P : Program) (lines : List (List ℕ)) : Type 0 where
  pub trees : List Tree
  pub derivation : IsDerivation P trees
  pub spellable : AllByRecursion (IsSpellable P.names) (rows_from 0 trees)
  pub are : lines ≡ map (line_of P.names) (rows_from 0 trees)

-- Lines lead to the end exactly where they are those of a derivation's trees.
pub record EndIsDerivation (P : Program) (lines : List (List ℕ)) : Type 0 where
  pub derivation : Lead P start lines (at_end P) → IsDerivationText P lines
  pub end : IsDerivationText P lines → Lead P start lines (at_end P)

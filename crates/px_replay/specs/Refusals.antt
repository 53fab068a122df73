-- Why a line does not go on from a state: the first kind that is so.
use Rattle.std.specs.Prelude.{◌≡◌, ◌≢◌, ℕ, ◌<◌, List, [], ◌∷◌, length}
use Rattle.px_terms.specs.declared.program.Program.{Program}
use Rattle.px_terms.specs.declared.sequent.Sequent.{Sequent}
use Rattle.px_terms.specs.declared.row.Row.{Row}
use Rattle.px_terms.specs.declared.row.Row.TheVariants as row
use Rattle.px_derive.specs.Spelling.{line_of}
use Rattle.px_derive.specs.Spellable.{IsSpellable, IsNoLine}
use Rattle.px_replay.specs.declared.ends.Why.{Why}
use Rattle.px_replay.specs.declared.ends.Why.TheVariants as why
use Rattle.px_replay.specs.States.{State, start, Moves, Lead}

-- The row is the header of the next obligation, which there is.
pub record IsNextHeader (P : Program) (next : ℕ) (r : Row) : Type 0 where
  pub there : next < length P.declared
  pub on : List ℕ
  pub header : r ≡ row.Header next on

-- where nothing is open, the header of the next obligation is due, and else a row of the tree
abbrev pub IsDueFrom : Program → ℕ → List Sequent → Row → Type 0
IsDueFrom P next [] r = IsNextHeader P next r
IsDueFrom P next (s ∷ below) r = (n : ℕ) (on : List ℕ) → r ≢ row.Header n on

-- the row may stand next, whatever it does
abbrev pub IsDue : Program → State → Row → Type 0
IsDue P state r = IsDueFrom P state.next state.stack r

-- The line is a row's that may not stand next.
pub record IsOutOfOrder (P : Program) (state : State) (line : List ℕ) : Type 0 where
  pub row : Row
  pub spellable : IsSpellable P.names row
  pub spelled : line ≡ line_of P.names row
  pub order : ¬ IsDue P state row

-- The line is a row's that may stand next, but it does not apply.
pub record BreaksRule (P : Program) (state : State) (line : List ℕ) : Type 0 where
  pub row : Row
  pub spellable : IsSpellable P.names row
  pub spelled : line ≡ line_of P.names row
  pub order : IsDue P state row
  pub rule : (new : State) → ¬ Moves P state row new

-- the line does not go on from the state, for this reason; the end of the text is no reason against a line
abbrev pub Fails : Program → State → List ℕ → Why → Type 0
Fails P state line why.Form = IsNoLine P.names line
Fails P state line why.Order = IsOutOfOrder P state line
Fails P state line why.Rule = BreaksRule P state line
Fails P state line why.End = ⊥

-- The lines lead to a state from which the line does not go on, for this reason.
pub record FailsAfter (P : Program) (lines : List (List ℕ)) (line : List ℕ) (why : Why) : Type 0 where
  pub state : State
  pub leads : Lead P start lines state
  pub fails : Fails P state line why

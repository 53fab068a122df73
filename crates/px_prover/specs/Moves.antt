-- Moves: steps of a term at paths, each within a room. What is normalised is reached by moves.
use Rattle.std.specs.Prelude.{◌≡◌, ℕ, List, [], ◌∷◌, Some, IsTrue, slice_get}
use Rattle.px_terms.specs.declared.term.Term.{Term}
use Rattle.px_terms.specs.declared.clause.Equation.{Equation}
use Rattle.px_terms.specs.declared.program.Program.{Program}
use Rattle.px_terms.specs.declared.row.Kind.{Kind}
use Rattle.px_terms.specs.Terms.{subterm, replaced}
use Rattle.px_terms.specs.Steps.{Turns}
use Rattle.px_prover.specs.Rooms.{Room}

-- A move: a kind of step, and where it is taken.
pub record Move : Type 0 where
  pub path : List ℕ
  pub kind : Kind

-- The move makes u of t, and there is room for u.
pub record Moves (P : Program) (facts : List Equation) (room : Room) (t : Term) (move : Move) (u : Term) : Type 0 where
  pub part : Term
  pub becomes : Term
  pub at : subterm t move.path ≡ Some part
  pub turns : Turns P facts move.kind part becomes
  pub whole : replaced t move.path becomes ≡ Some u
  pub fits : IsTrue (room u)

-- the moves lead from one term to another, one after the other
pub data MovesLead (P : Program) (facts : List Equation) (room : Room) : Term → List Move → Term → Type 0 where
  no_move : {t : Term} → MovesLead P facts room t [] t
  moves_on : {t u v : Term} {move : Move} {moves : List Move} → Moves P facts room t move u → MovesLead P facts room u moves v →
      MovesLead P facts room t (move ∷ moves) v

-- From t some moves lead to u, and there is room for u.
pub record Reaches (P : Program) (facts : List Equation) (room : Room) (t u : Term) : Type 0 where
  pub moves : List Move
  pub lead : MovesLead P facts room t moves u
  pub fits : IsTrue (room u)

-- The equation stands among these.
pub record StandsAmong (facts : List Equation) (e : Equation) : Type 0 where
  pub number : ℕ
  pub stands : slice_get facts number ≡ Some e

-- each of the equations stands among these
abbrev pub AreAmong : List Equation → List Equation → Type 0
AreAmong some facts = (n : ℕ) (e : Equation) → slice_get some n ≡ Some e → StandsAmong facts e

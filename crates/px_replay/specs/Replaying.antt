-- How a replay keeps its state: the stack of open sequents, each with a mark, and what a line does to it.
use Rattle.std.specs.Prelude.{◌≡◌, ℕ, ◌≤◌, List, [], length, map, reverse, slice_get, Some, All, IsTrue, true}
use Rattle.px_terms.specs.declared.term.Term.{Term}
use Rattle.px_terms.specs.declared.clause.Equation.{Equation}
use Rattle.px_terms.specs.declared.program.Program.{Program}
use Rattle.px_terms.specs.declared.sequent.Sequent.{Sequent}
use Rattle.px_terms.specs.declared.row.Side.{Side}
use Rattle.px_terms.specs.declared.row.Kind.{Kind}
use Rattle.px_terms.specs.declared.row.Row.{Row}
use Rattle.px_terms.specs.Sequents.{side_of, IsWithinLimits}
use Rattle.px_terms.specs.Steps.{Step}
use Rattle.px_terms.specs.Rows.{Opens}
use Rattle.px_replay.specs.declared.ends.Why.TheVariants as why
use Rattle.px_replay.specs.declared.ends.LineRefusal.{LineRefusal}
use Rattle.px_replay.specs.declared.ends.LineRefusal.TheVariants as refusals
use Rattle.px_replay.specs.declared.open_sequents.Open.{Open}
use Rattle.px_replay.specs.declared.open_sequents.Progress.{Progress}
use Rattle.px_replay.specs.States.{State, Moves}
use Rattle.px_replay.specs.Refusals.{IsDue, Fails}

-- Where an open sequent is marked as within the limits, it is.
pub record IsRightlyMarked (o : Open) : Type 0 where
  pub within : IsTrue o.is_within → IsWithinLimits o.sequent

-- a child of a row as an open sequent, marked as within the limits
abbrev pub child_within : Sequent → Open
child_within s = record { sequent = s; is_within = true }

-- the sequents of a stack, the top first; a stack's last item is its top
abbrev pub sequents_of : List Open → List Sequent
sequents_of stack = map (λ (o : Open). o.sequent) (reverse stack)

-- the state that is kept so
abbrev pub state_of : Progress → State
state_of p = record { next = p.next; stack = sequents_of p.stack }

-- The open sequents are rightly marked, no more obligations were begun than there are, and one where something is open.
pub record IsSound (P : Program) (p : Progress) : Type 0 where
  pub marked : All IsRightlyMarked p.stack
  pub within : p.next ≤ length P.declared
  pub begun : p.next ≡ 0 → p.stack ≡ []

-- The sides of an alternative are one term.
pub record SidesAreOne (s : Sequent) (at : ℕ) : Type 0 where
  pub equation : Equation
  pub found : slice_get s.alternatives at ≡ Some equation
  pub one : equation.left ≡ equation.right

-- The term is what a step makes of a side of an equation.
pub record StepsSide (P : Program) (facts equations : List Equation) (at : ℕ) (side : Side) (path : List ℕ) (kind : Kind) (t : Term) : Type 0 where
  pub equation : Equation
  pub found : slice_get equations at ≡ Some equation
  pub step : Step P facts (side_of equation side) path kind t

-- The row leaves these children of the sequent, each within the limits.
pub record Leaves (P : Program) (n : ℕ) (s : Sequent) (r : Row) (children : List Sequent) : Type 0 where
  pub opens : Opens P n s r children
  pub small : All IsWithinLimits children

-- a row was not taken: it is out of order, or it may stand next and does not apply
abbrev pub RowRefused : Program → State → Row → LineRefusal → Type 0
RowRefused P state r (refusals.Wrong why.Order) = ¬ IsDue P state r
RowRefused P state r (refusals.Wrong why.Rule) = IsDue P state r × ((new : State) → ¬ Moves P state r new)
RowRefused P state r (refusals.Wrong why.Form) = ⊥
RowRefused P state r (refusals.Wrong why.End) = ⊥
RowRefused P state r refusals.NoMemory = Unit {0}

-- a line was not taken
abbrev pub LineRefused : Program → State → List ℕ → LineRefusal → Type 0
LineRefused P state line (refusals.Wrong w) = Fails P state line w
LineRefused P state line refusals.NoMemory = Unit {0}

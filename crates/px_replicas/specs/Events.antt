-- Which events may happen, and what they ask of the merge.
use Rattle.std.specs.Prelude.{◌≡◌, ℕ, ◌<◌, ◌≤◌, List, Some, slice_get}
use Rattle.px_terms.specs.declared.term.Value.{Value}
use Rattle.px_terms.specs.declared.program.ReplicaDef.{ReplicaDef}
use Rattle.px_terms.specs.declared.program.Program.{Program}
use Rattle.px_terms.specs.Values.{IsIn}
use Rattle.px_schedule.specs.declared.schedule.Event.{Event}
use Rattle.px_schedule.specs.declared.schedule.Event.TheVariants.{Update, Send, Deliver, Show}
use Rattle.px_replicas.specs.Held.{sends_before}
use Rattle.px_replicas.specs.Joins.{Merges, IsState, IsMessage}

-- the event's replica is one of so many, and its message one of so many
abbrev pub NamesSome : ℕ → ℕ → Event → Type 0
NamesSome replicas messages (Update r v) = r < replicas
NamesSome replicas messages (Send r) = r < replicas
NamesSome replicas messages (Deliver k r) = (k < messages) × (r < replicas)
NamesSome replicas messages (Show r) = r < replicas

-- the value that the event contributes is of the state's type
abbrev pub HasState : Program → ReplicaDef → Event → Type 0
HasState P R (Update r v) = IsIn P R.state v
HasState P R (Send r) = Unit {0}
HasState P R (Deliver k r) = Unit {0}
HasState P R (Show r) = Unit {0}

-- The events may happen one after the other at so many replicas: each names one of them, a message that is delivered was sent before,
-- and values are of the state's type.
pub record MayHappen (P : Program) (R : ReplicaDef) (count : ℕ) (events : List Event) : Type 0 where
  pub names : (i : ℕ) (e : Event) → slice_get events i ≡ Some e → NamesSome count (sends_before events i) e
  pub values : (i : ℕ) (e : Event) → slice_get events i ≡ Some e → HasState P R e

-- the event at place i asks for so many calls: those of the merge of what its replica has before it with the value, or with what the
-- message holds; a sending and a show ask for none
pub data Needs (P : Program) (R : ReplicaDef) (events : List Event) (i calls : ℕ) : Type 0 where
  at_update : {r : ℕ} {numbers : List ℕ} {a b v : Value} → slice_get events i ≡ Some (Update r b) → IsState P R events i r numbers a → Merges P R a b v calls →
      Needs P R events i calls
  at_delivery : {k r : ℕ} {numbers others : List ℕ} {a b v : Value} → slice_get events i ≡ Some (Deliver k r) → IsState P R events i r numbers a →
      IsMessage P R events k others b → Merges P R a b v calls → Needs P R events i calls
  at_send : {r : ℕ} → slice_get events i ≡ Some (Send r) → calls ≡ 0 → Needs P R events i calls
  at_show : {r : ℕ} → slice_get events i ≡ Some (Show r) → calls ≡ 0 → Needs P R events i calls

-- The event at place i asks for no more calls than the budget.
pub record IsWithin (P : Program) (R : ReplicaDef) (events : List Event) (budget i : ℕ) : Type 0 where
  pub calls : ℕ
  pub needs : Needs P R events i calls
  pub within : calls ≤ budget

-- The event at place i asks for more calls than the budget.
pub record IsAbove (P : Program) (R : ReplicaDef) (events : List Event) (budget i : ℕ) : Type 0 where
  pub calls : ℕ
  pub needs : Needs P R events i calls
  pub above : budget < calls

-- each of the first i events asks for no more calls than the budget
abbrev pub AreWithin : Program → ReplicaDef → List Event → ℕ → ℕ → Type 0
AreWithin P R events budget i = (place : ℕ) → place < i → IsWithin P R events budget place

-- The event at place i is the first that asks for more calls than the budget.
pub record IsFirstAbove (P : Program) (R : ReplicaDef) (events : List Event) (budget i : ℕ) : Type 0 where
  pub before : AreWithin P R events budget i
  pub above : IsAbove P R events budget i

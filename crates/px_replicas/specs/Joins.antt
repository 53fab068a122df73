-- The join of contributed values, and when a merge joins.
use Rattle.std.specs.Prelude.{◌≡◌, ℕ, List, [], ◌∷◌}
use Rattle.px_terms.specs.declared.term.Value.{Value}
use Rattle.px_terms.specs.declared.program.ReplicaDef.{ReplicaDef}
use Rattle.px_terms.specs.declared.program.Program.{Program}
use Rattle.px_terms.specs.Values.{IsIn}
use Rattle.px_terms.specs.Meaning.{Means, Gives}
use Rattle.px_schedule.specs.declared.schedule.Event.{Event}
use Rattle.px_replicas.specs.Held.{IsUpdateAt, AreHeld, AreSent}

-- by its meaning the merge of the declaration gives this value of the two, with so many calls
abbrev pub Merges : Program → ReplicaDef → Value → Value → Value → ℕ → Type 0
Merges P R a b v calls = Gives P R.merge R.funs (a ∷ b ∷ []) v calls

-- The value is the merge of the two, whatever the calls that it takes.
pub record IsMerged (P : Program) (R : ReplicaDef) (a b v : Value) : Type 0 where
  pub calls : ℕ
  pub merges : Merges P R a b v calls

-- The value of the update of this number.
pub record IsContributed (events : List Event) (n : ℕ) (v : Value) : Type 0 where
  pub place : ℕ
  pub replica : ℕ
  pub update : IsUpdateAt events place replica v n

-- from the first value on, the values of these updates are merged one after the other: the value so far with the next
pub data Gathers (P : Program) (R : ReplicaDef) (events : List Event) : Value → List ℕ → Value → Type 0 where
  done : {a v : Value} → v ≡ a → Gathers P R events a [] v
  more : {a b v w : Value} {n : ℕ} {numbers : List ℕ} → IsContributed events n b → IsMerged P R a b v → Gathers P R events v numbers w → Gathers P R events a (n ∷ numbers) w

-- The value is the join of these updates: what the declaration's first value and theirs, in this order, are merged to.
pub record IsJoin (P : Program) (R : ReplicaDef) (events : List Event) (numbers : List ℕ) (v : Value) : Type 0 where
  pub first : Value
  pub calls : ℕ
  pub is_first : Means P [] [] [] R.from first calls
  pub gathers : Gathers P R events first numbers v

-- What replica r holds after the first i events, and the join of that.
pub record IsState (P : Program) (R : ReplicaDef) (events : List Event) (i r : ℕ) (numbers : List ℕ) (v : Value) : Type 0 where
  pub held : AreHeld events i r numbers
  pub join : IsJoin P R events numbers v

-- What message k holds, and the join of that.
pub record IsMessage (P : Program) (R : ReplicaDef) (events : List Event) (k : ℕ) (numbers : List ℕ) (v : Value) : Type 0 where
  pub sent : AreSent events k numbers
  pub join : IsJoin P R events numbers v

-- Two values have one merge in both orders.
pub record Commute (P : Program) (R : ReplicaDef) (a b : Value) : Type 0 where
  pub both : Value
  pub one_way : IsMerged P R a b both
  pub other_way : IsMerged P R b a both

-- Three values have one merge, however they are put together.
pub record Associate (P : Program) (R : ReplicaDef) (a b c : Value) : Type 0 where
  pub front : Value
  pub back : Value
  pub all : Value
  pub is_front : IsMerged P R a b front
  pub from_front : IsMerged P R front c all
  pub is_back : IsMerged P R b c back
  pub from_back : IsMerged P R a back all

-- The merge joins: on the values of the state's type it is commutative, associative and idempotent in the meaning.
pub record MergeJoins (P : Program) (R : ReplicaDef) : Type 0 where
  pub comm : (a b : Value) → IsIn P R.state a → IsIn P R.state b → Commute P R a b
  pub assoc : (a b c : Value) → IsIn P R.state a → IsIn P R.state b → IsIn P R.state c → Associate P R a b c
  pub idem : (a : Value) → IsIn P R.state a → IsMerged P R a a a

-- What is true of the merge that a world calls, and of each world, for the proofs.
use Rattle.std.specs.Prelude.{◌≡◌, ℕ, ◌<◌, ◌≤◌, List, [], ◌∷◌, ◌++◌, length, map, Contains, Some, slice_get, Result, Ok, Err}
use Rattle.px_base.specs.declared.head.Head.TheVariants as head
use Rattle.px_base.specs.declared.limits.TheConstants.{EVENTS, REPLICAS}
use Rattle.px_terms.specs.declared.term.Term.{Term}
use Rattle.px_terms.specs.declared.term.Term.TheOpen.{Term-F}
use Rattle.px_terms.specs.declared.term.Term.TheFolds.{fold-Term}
use Rattle.px_terms.specs.declared.term.Value.{Value}
use Rattle.px_terms.specs.declared.term.Value.TheVariants as value
use Rattle.px_terms.specs.declared.program.ReplicaDef.{ReplicaDef}
use Rattle.px_terms.specs.declared.program.Program.{Program}
use Rattle.px_terms.specs.Values.{IsIn}
use Rattle.px_terms.specs.Extending.{IsWellFounded}
use Rattle.px_terms.specs.TypedPrograms.{IsTypedReplica}
use Rattle.px_descent.specs.Checked.{IsChecked}
use Rattle.px_machine.specs.declared.code.Code.{Code}
use Rattle.px_machine.specs.declared.run_end.RunEnd.{RunEnd}
use Rattle.px_machine.specs.declared.run_end.RunEnd.TheVariants as ends
use Rattle.px_machine.specs.Standing.{Stands, targets_of}
use Rattle.px_replicas.specs.declared.version.Version.{Version}
use Rattle.px_replicas.specs.declared.merge.Merge.{Merge}
use Rattle.px_replicas.specs.Joins.{Merges}
use Rattle.px_schedule.specs.declared.schedule.Event.TheVariants as event
use Rattle.px_replicas.specs.Keeping.{AreInOrder}
use Rattle.px_replicas.specs.declared.shown.Shown.{Shown}
use Rattle.px_replicas.specs.Held.{IsUnion}
use Rattle.px_replicas.specs.Holdings.{Holdings}
use Rattle.px_replicas.specs.Worlds.{Standing, Runs, HappensAbove}

-- the value of a layer that is a literal or a constructor, over the values of its parts
abbrev pub built_step : Term-F Value → Value
built_step (Term-F.Free n) = value.Lit 0
built_step (Term-F.Bound n) = value.Lit 0
built_step (Term-F.Lit w) = value.Lit w
built_step (Term-F.Con d k types fields) = value.Con d k fields
built_step (Term-F.Call f funs args) = value.Lit 0
built_step (Term-F.Match on d types arms) = value.Lit 0

-- the value of a term that is built of constructors and literals alone
abbrev pub built_value : Term → Value
built_value = fold-Term Value built_step

-- the values of several
abbrev pub built_values : List Term → List Value
built_values terms = map built_value terms

-- The merge is the declaration's, over this code.
pub record IsMergeOf (code : Code) (R : ReplicaDef) (m : Merge) : Type 0 where
  pub over : m.code.now ≡ code
  pub merge : R.merge.head ≡ head.Def m.def
  pub given : m.funs ≡ targets_of R.funs

-- The merge serves for the declaration of the program: the program is typed and descends, the declaration is typed, the code stands for
-- the program, and the merge is the declaration's.
pub record Serves (P : Program) (R : ReplicaDef) (m : Merge) : Type 0 where
  pub founded : IsWellFounded P
  pub typed : IsTypedReplica P R
  pub stands : Stands m.code.now P
  pub merge : R.merge.head ≡ head.Def m.def
  pub given : m.funs ≡ targets_of R.funs

-- There is a declaration for which the merge serves, and the values are of its state's type.
pub record CanMerge (m : Merge) (a b : Value) : Type 0 where
  pub program : Program
  pub replica : ReplicaDef
  pub serves : Serves program replica m
  pub one : IsIn program replica.state a
  pub other : IsIn program replica.state b

-- The value is the merge of the two, is of the state's type, and takes no more calls than the budget.
pub record MergesTo (P : Program) (R : ReplicaDef) (a b : Value) (budget : ℕ) (v : Value) : Type 0 where
  pub calls : ℕ
  pub merges : Merges P R a b v calls
  pub within : calls ≤ budget
  pub typed : IsIn P R.state v

-- The merge of the two takes more calls than the budget.
pub record MergesAbove (P : Program) (R : ReplicaDef) (a b : Value) (budget : ℕ) : Type 0 where
  pub value : Value
  pub calls : ℕ
  pub merges : Merges P R a b value calls
  pub above : budget < calls

-- what a merge within a budget answers
abbrev pub MergesWithin : Program → ReplicaDef → Value → Value → ℕ → Result Value RunEnd → Type 0
MergesWithin P R a b budget (Ok v) = MergesTo P R a b budget v
MergesWithin P R a b budget (Err ends.Spent) = MergesAbove P R a b budget
MergesWithin P R a b budget (Err ends.NoMemory) = Unit {0}

-- A version of a world with so many updates: its state is of the state's type, and its numbers rise and are those of updates so far.
pub record IsSound (P : Program) (R : ReplicaDef) (updates : ℕ) (version : Version) : Type 0 where
  pub typed : IsIn P R.state version.state
  pub rising : AreInOrder version.numbers
  pub below : (n : ℕ) → Contains version.numbers n → n < updates

-- each version of the list is sound
pub record AreSound (P : Program) (R : ReplicaDef) (updates : ℕ) (versions : List Version) : Type 0 where
  pub each : (i : ℕ) (version : Version) → slice_get versions i ≡ Some version → IsSound P R updates version

-- What is true of each world: its merge serves for its declaration, its versions are sound, and updates and messages are at most as many as
-- events, which are at most `EVENTS`.
pub record IsKept (w : Standing) (m : Merge) : Type 0 where
  pub replica : ReplicaDef
  pub declared : slice_get w.program.replicas w.declaration ≡ Some replica
  pub serves : Serves w.program replica m
  pub replicas : AreSound w.program replica w.updates w.replicas
  pub messages : AreSound w.program replica w.updates w.messages
  pub many : length w.replicas ≤ REPLICAS
  pub few_updates : w.updates ≤ w.events
  pub few_messages : length w.messages ≤ w.events
  pub few_events : w.events ≤ EVENTS

-- a world of these parts
abbrev pub standing_of : Program → ℕ → Holdings → ℕ → ℕ → Standing
standing_of P declaration holdings updates events =
    record { program = P; declaration = declaration; replicas = holdings.replicas; messages = holdings.messages; updates = updates; events = events }

-- The world's program is checked, typed and descends, its declaration is typed there, and its versions are sound.
pub record IsFounded (w : Standing) : Type 0 where
  pub replica : ReplicaDef
  pub runs : Runs w w.program replica
  pub checked : IsChecked w.program
  pub founded : IsWellFounded w.program
  pub typed : IsTypedReplica w.program replica
  pub replicas : AreSound w.program replica w.updates w.replicas
  pub messages : AreSound w.program replica w.updates w.messages

-- the value is of the state's type of the world's declaration
abbrev pub IsOfState : Standing → Value → Type 0
IsOfState w v = (R : ReplicaDef) → Runs w w.program R → IsIn w.program R.state v

-- The version of a replica after an update within the budget.
pub record IsUpdated (w : Standing) (R : ReplicaDef) (r : ℕ) (v : Value) (budget : ℕ) (next : Version) : Type 0 where
  pub old : Version
  pub is_old : slice_get w.replicas r ≡ Some old
  pub merged : MergesTo w.program R old.state v budget next.state
  pub numbers : next.numbers ≡ old.numbers ++ w.updates ∷ []

-- what an update answers for the version
abbrev pub Updates : Standing → ReplicaDef → ℕ → Value → ℕ → Result Version RunEnd → Type 0
Updates w R r v budget (Ok next) = IsUpdated w R r v budget next
Updates w R r v budget (Err ends.Spent) = HappensAbove w w.program R (event.Update r v) budget
Updates w R r v budget (Err ends.NoMemory) = Unit {0}

-- The version of a replica after a delivery within the budget.
pub record IsDelivered (w : Standing) (R : ReplicaDef) (k r : ℕ) (budget : ℕ) (next : Version) : Type 0 where
  pub old : Version
  pub is_old : slice_get w.replicas r ≡ Some old
  pub sent : Version
  pub is_sent : slice_get w.messages k ≡ Some sent
  pub merged : MergesTo w.program R old.state sent.state budget next.state
  pub numbers : IsUnion old.numbers sent.numbers next.numbers

-- what a delivery answers for the version
abbrev pub Delivers : Standing → ReplicaDef → ℕ → ℕ → ℕ → Result Version RunEnd → Type 0
Delivers w R k r budget (Ok next) = IsDelivered w R k r budget next
Delivers w R k r budget (Err ends.Spent) = HappensAbove w w.program R (event.Deliver k r) budget
Delivers w R k r budget (Err ends.NoMemory) = Unit {0}

-- What is shown is the replica's version.
pub record IsShown (w : Standing) (r : ℕ) (shown : Shown) : Type 0 where
  pub version : Version
  pub is_version : slice_get w.replicas r ≡ Some version
  pub is : shown ≡ record { replica = r; numbers = version.numbers; value = version.state }

-- What the definitions say of every schedule.
use Rattle.std.specs.Prelude.{◌≡◌, ◌↔◌, ◌⊎◌, ℕ, ◌+◌, ◌<◌, ◌≤◌, List, ◌++◌, Option, Contains, length, Some, slice_get}
use Rattle.px_base.specs.declared.limits.TheConstants.{EVENTS, REPLICAS}
use Rattle.px_terms.specs.declared.term.Value.{Value}
use Rattle.px_terms.specs.declared.program.ReplicaDef.{ReplicaDef}
use Rattle.px_terms.specs.declared.program.Program.{Program}
use Rattle.px_terms.specs.Obligations.{AllHoldInExtensions}
use Rattle.px_descent.specs.Checked.{IsChecked}
use Rattle.px_schedule.specs.declared.schedule.Event.{Event}
use Rattle.px_schedule.specs.declared.schedule.Event.TheVariants.{Update, Send, Deliver, Show}
use Rattle.px_schedule.specs.declared.schedule.Schedule.{Schedule}
use Rattle.px_schedule.specs.Schedules.{IsSchedule}
use Rattle.px_replicas.specs.declared.shown.Shown.{Shown}
use Rattle.px_replicas.specs.Held.{updates_before, Holds, AreSent}
use Rattle.px_replicas.specs.Joins.{IsJoin, IsState, MergeJoins}
use Rattle.px_replicas.specs.Events.{HasState, MayHappen, Needs}
use Rattle.px_replicas.specs.Lines.{show_lines, shown_list, IsAnswer, AreShown, AreLines}
use Rattle.px_replicas.specs.Worlds.{Standing, Fits, StandsFor}

-- The event at place i adds this alone to what is held: an update its number at its replica, a delivery what its message holds at its
-- replica, a sending and a show nothing.
pub record HeldGoesOn (events : List Event) (i : ℕ) : Type 0 where
  pub at_update : (r : ℕ) (v : Value) → slice_get events i ≡ Some (Update r v) → (q n : ℕ) → Holds events n (i + 1) q ↔ (Holds events n i q ⊎ ((q ≡ r) × (n ≡ updates_before events i)))
  pub at_send : (r : ℕ) → slice_get events i ≡ Some (Send r) → (q n : ℕ) → Holds events n (i + 1) q ↔ Holds events n i q
  pub at_delivery : (k r : ℕ) (sent : List ℕ) (sends : AreSent events k sent) → slice_get events i ≡ Some (Deliver k r) → sends.sending < i →
      (q n : ℕ) → Holds events n (i + 1) q ↔ (Holds events n i q ⊎ ((q ≡ r) × Contains sent n))
  pub at_show : (r : ℕ) → slice_get events i ≡ Some (Show r) → (q n : ℕ) → Holds events n (i + 1) q ↔ Holds events n i q

-- Before the first event nothing is held, and then each event adds what it adds.
pub record HeldByCases : Type 0 where
  pub before : (events : List Event) (n r : ℕ) → ¬ Holds events n 0 r
  pub goes_on : (events : List Event) (i : ℕ) → HeldGoesOn events i

-- a join depends on the set of its updates alone: in whatever order they stand and however often each, the value is the same
abbrev pub JoinOfASet : Type 0
JoinOfASet =
    (P : Program) (R : ReplicaDef) (declaration : ℕ) → IsChecked P → slice_get P.replicas declaration ≡ Some R → MergeJoins P R →
    (events : List Event) → ((i : ℕ) (e : Event) → slice_get events i ≡ Some e → HasState P R e) →
    (ones others : List ℕ) (v w : Value) → ((n : ℕ) → Contains ones n ↔ Contains others n) → IsJoin P R events ones v → IsJoin P R events others w → v ≡ w

-- what a replica holds after so many events is one list of numbers with one join
abbrev pub OneState : Type 0
OneState =
    (P : Program) (R : ReplicaDef) (events : List Event) (i r : ℕ) (ones others : List ℕ) (v w : Value) →
    IsState P R events i r ones v → IsState P R events i r others w → (ones ≡ others) × (v ≡ w)

-- two replicas that hold the same updates, whenever and however they got them, have the same state
abbrev pub SameHeldSameState : Type 0
SameHeldSameState =
    (P : Program) (R : ReplicaDef) (events : List Event) (i j r q : ℕ) (ones others : List ℕ) (v w : Value) →
    IsState P R events i r ones v → IsState P R events j q others w → ((n : ℕ) → Holds events n i r ↔ Holds events n j q) → v ≡ w

-- an event asks for one number of calls
abbrev pub OneNeed : Type 0
OneNeed = (P : Program) (R : ReplicaDef) (events : List Event) (i calls others : ℕ) → Needs P R events i calls → Needs P R events i others → calls ≡ others

-- Of the shows among the first i events there is one list of what they show, and one text. What two of them show with the same numbers has
-- the same value.
pub record OneOutput : Type 0 where
  pub shown : (P : Program) (R : ReplicaDef) (events : List Event) (i : ℕ) (ones others : List Shown) → AreShown P R events i ones → AreShown P R events i others → ones ≡ others
  pub lines : (P : Program) (R : ReplicaDef) (events : List Event) (i : ℕ) (one other : List ℕ) → AreLines P R events i one → AreLines P R events i other → one ≡ other
  pub same_numbers : (P : Program) (R : ReplicaDef) (events : List Event) (i : ℕ) (all : List Shown) → AreShown P R events i all →
      (j k : ℕ) (s t : Shown) → slice_get all j ≡ Some s → slice_get all k ≡ Some t → s.numbers ≡ t.numbers → s.value ≡ t.value

-- the lines of one event more are the lines so far and what the event shows
abbrev pub LinesGoOn : Type 0
LinesGoOn =
    (P : Program) (R : ReplicaDef) (events : List Event) (i : ℕ) (text : List ℕ) (answer : Option Shown) →
    AreLines P R events i text → IsAnswer P R events i answer → AreLines P R events (i + 1) (text ++ show_lines P.names (shown_list answer))

-- where each obligation of a checked program holds, the merge of each of its replica declarations joins
abbrev pub DeclaredMergesJoin : Type 0
DeclaredMergesJoin =
    (P : Program) (R : ReplicaDef) (declaration : ℕ) → IsChecked P → AllHoldInExtensions P → slice_get P.replicas declaration ≡ Some R → MergeJoins P R

-- What a schedule's text says of its replicas and events: its declaration is one of the program, it has 1 to `REPLICAS` replicas and at
-- most `EVENTS` events, and the events may happen.
pub record IsOfSchedule (P : Program) (s : Schedule) : Type 0 where
  pub replica : ReplicaDef
  pub declared : slice_get P.replicas s.declaration ≡ Some replica
  pub some : 1 ≤ s.count
  pub few : s.count ≤ REPLICAS
  pub room : length s.events ≤ EVENTS
  pub may : MayHappen P replica s.count s.events

-- so of each text
abbrev pub SchedulesMayHappen : Type 0
SchedulesMayHappen = (P : Program) (text : List ℕ) (s : Schedule) → IsSchedule P text s → IsOfSchedule P s

-- where a world stands for events that may happen, as many as there is room for, the next event fits, and its value is of the state's type
abbrev pub NextFits : Type 0
NextFits =
    (P : Program) (R : ReplicaDef) (count : ℕ) (events : List Event) (i : ℕ) (w : Standing) (e : Event) → StandsFor P R count events i w → MayHappen P R count events → length events ≤ EVENTS →
    slice_get events i ≡ Some e → Fits w e × HasState P R e

-- where the merge joins, there are the lines of so many first events of a schedule that may happen
abbrev pub LinesExist : Type 0
LinesExist =
    (P : Program) (R : ReplicaDef) (declaration count : ℕ) → IsChecked P → slice_get P.replicas declaration ≡ Some R → MergeJoins P R →
    (events : List Event) → MayHappen P R count events → (i : ℕ) → i ≤ length events → (text : List ℕ) × AreLines P R events i text

-- where the merge joins, each replica has a state after so many first events of a schedule that may happen
abbrev pub StatesExist : Type 0
StatesExist =
    (P : Program) (R : ReplicaDef) (declaration count : ℕ) → IsChecked P → slice_get P.replicas declaration ≡ Some R → MergeJoins P R →
    (events : List Event) → MayHappen P R count events → (i : ℕ) → i ≤ length events → (r : ℕ) → r < count → (numbers : List ℕ) × (v : Value) × IsState P R events i r numbers v

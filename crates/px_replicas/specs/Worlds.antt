-- Worlds: what an event does to one, and when one stands for a schedule after some of its events.
use Rattle.std.specs.Prelude.{◌≡◌, refl, ℕ, ◌+◌, ◌<◌, ◌≤◌, List, [], ◌∷◌, ◌++◌, length, replicate, slice_set, Option, Some, None, slice_get, Result, Ok, Err}
use Rattle.std.specs.Coded.{Coded, code_by, coded×, coded_list, coded_ℕ}
use Rattle.px_base.specs.declared.limits.TheConstants.{EVENTS}
use Rattle.px_terms.specs.declared.term.Value.{Value}
use Rattle.px_terms.specs.declared.program.ReplicaDef.{ReplicaDef}
use Rattle.px_terms.specs.declared.program.Program.{Program}
use Rattle.px_terms.specs.contracts.program.Program as programs
use Rattle.px_terms.specs.Meaning.{Means}
use Rattle.px_machine.specs.declared.run_end.RunEnd.{RunEnd}
use Rattle.px_machine.specs.declared.run_end.RunEnd.TheVariants as ends
use Rattle.px_schedule.specs.declared.schedule.Event.{Event}
use Rattle.px_schedule.specs.declared.schedule.Event.TheVariants.{Update, Send, Deliver, Show}
use Rattle.px_replicas.specs.declared.shown.Shown.{Shown}
use Rattle.px_replicas.specs.declared.version.Version.{Version}
use Rattle.px_replicas.specs.contracts.version.Version as versions
use Rattle.px_replicas.specs.Held.{updates_before, sends_before, IsUnion}
use Rattle.px_replicas.specs.Joins.{Merges, IsState, IsMessage}
use Rattle.px_replicas.specs.Events.{NamesSome, IsWithin, IsAbove}
use Rattle.px_replicas.specs.Lines.{IsAnswer}

-- What a world is: its program, the number of its replica declaration, the version of each replica and of each message, in order, and how
-- many updates and events there were.
pub record Standing : Type 0 where
  pub program : Program
  pub declaration : ℕ
  pub replicas : List Version
  pub messages : List Version
  pub updates : ℕ
  pub events : ℕ

-- a standing is stored as the tuple of its fields
abbrev pub standing_code : Coded Standing
standing_code =
    code_by (Program × (ℕ × (List Version × (List Version × (ℕ × ℕ)))))
    (coded× programs.the_row.coded (coded× coded_ℕ (coded× (coded_list versions.the_row.coded) (coded× (coded_list versions.the_row.coded) (coded× coded_ℕ coded_ℕ)))))
    (λ s. (s.program, (s.declaration, (s.replicas, (s.messages, (s.updates, s.events))))))
    (λ p. record { program = p.0; declaration = p.1.0; replicas = p.1.1.0; messages = p.1.1.1.0; updates = p.1.1.1.1.0; events = p.1.1.1.1.1 }) (λ _. refl)

-- The world runs this declaration of this program.
pub record Runs (w : Standing) (P : Program) (R : ReplicaDef) : Type 0 where
  pub program : w.program ≡ P
  pub declared : slice_get P.replicas w.declaration ≡ Some R

-- So many replicas of the declaration: each has the declaration's first value and holds no update; nothing was sent, and no event
-- was taken.
pub record IsNew (P : Program) (declaration count : ℕ) (w : Standing) : Type 0 where
  pub replica : ReplicaDef
  pub runs : Runs w P replica
  pub is_declaration : w.declaration ≡ declaration
  pub first : Version
  pub calls : ℕ
  pub is_first : Means P [] [] [] replica.from first.state calls
  pub holds_none : first.numbers ≡ []
  pub replicas : w.replicas ≡ replicate count first
  pub messages : w.messages ≡ []
  pub updates : w.updates ≡ 0
  pub events : w.events ≡ 0

-- The event may be taken: its replica and its message are there, and there is room for one event more.
pub record Fits (w : Standing) (e : Event) : Type 0 where
  pub names : NamesSome (length w.replicas) (length w.messages) e
  pub room : w.events < EVENTS

-- the world with another version of a replica, one event later
abbrev pub with_version : Standing → ℕ → Version → Standing
with_version w r version = record w { replicas = slice_set w.replicas r version; events = w.events + 1 }

-- with so many calls the event makes the new world of the old one, and answers this: an update merges its value into the replica's state
-- and adds the next number to those that the replica holds; a sending keeps the replica's version as the next message; a delivery merges
-- the message's state and adds its numbers, also where it came before; a show changes nothing, and answers the replica's version
pub data Happens (w : Standing) (P : Program) (R : ReplicaDef) : Event → ℕ → Standing → Option Shown → Type 0 where
  update : {r calls : ℕ} {v : Value} {new : Standing} {answer : Option Shown} (old next : Version) → slice_get w.replicas r ≡ Some old →
      Merges P R old.state v next.state calls → next.numbers ≡ old.numbers ++ w.updates ∷ [] → new ≡ record (with_version w r next) { updates = w.updates + 1 } → answer ≡ None →
      Happens w P R (Update r v) calls new answer
  send : {r calls : ℕ} {new : Standing} {answer : Option Shown} (old : Version) → slice_get w.replicas r ≡ Some old →
      new ≡ record w { messages = w.messages ++ old ∷ []; events = w.events + 1 } → calls ≡ 0 → answer ≡ None → Happens w P R (Send r) calls new answer
  deliver : {k r calls : ℕ} {new : Standing} {answer : Option Shown} (old sent next : Version) → slice_get w.replicas r ≡ Some old → slice_get w.messages k ≡ Some sent →
      Merges P R old.state sent.state next.state calls → IsUnion old.numbers sent.numbers next.numbers → new ≡ with_version w r next → answer ≡ None →
      Happens w P R (Deliver k r) calls new answer
  show : {r calls : ℕ} {new : Standing} {answer : Option Shown} (old : Version) → slice_get w.replicas r ≡ Some old →
      new ≡ record w { events = w.events + 1 } → calls ≡ 0 → answer ≡ Some (record { replica = r; numbers = old.numbers; value = old.state }) →
      Happens w P R (Show r) calls new answer

-- The event happens within the budget.
pub record HappensWithin (w : Standing) (P : Program) (R : ReplicaDef) (e : Event) (budget : ℕ) (new : Standing) (answer : Option Shown) : Type 0 where
  pub calls : ℕ
  pub happens : Happens w P R e calls new answer
  pub within : calls ≤ budget

-- The event would take more calls than the budget.
pub record HappensAbove (w : Standing) (P : Program) (R : ReplicaDef) (e : Event) (budget : ℕ) : Type 0 where
  pub calls : ℕ
  pub new : Standing
  pub answer : Option Shown
  pub happens : Happens w P R e calls new answer
  pub above : budget < calls

-- what a world answers to an event: it happens, where its calls are within the budget; else the budget is spent and nothing is changed;
-- nor is anything where no memory is left
abbrev pub Takes : Standing → Program → ReplicaDef → Event → ℕ → Standing → Result (Option Shown) RunEnd → Type 0
Takes w P R e budget new (Ok answer) = HappensWithin w P R e budget new answer
Takes w P R e budget new (Err ends.Spent) = HappensAbove w P R e budget × (new ≡ w)
Takes w P R e budget new (Err ends.NoMemory) = new ≡ w

-- The world stands for the schedule of these events after the first i of them, at so many replicas: each replica has the numbers that it holds
-- there and their join; it has exactly the messages sent so far, each with what it holds and the join of that; and it has counted the
-- updates and the events.
pub record StandsFor (P : Program) (R : ReplicaDef) (count : ℕ) (events : List Event) (i : ℕ) (w : Standing) : Type 0 where
  pub runs : Runs w P R
  pub many : length w.replicas ≡ count
  pub replicas : (r : ℕ) (version : Version) → slice_get w.replicas r ≡ Some version → IsState P R events i r version.numbers version.state
  pub sent : length w.messages ≡ sends_before events i
  pub messages : (k : ℕ) (version : Version) → slice_get w.messages k ≡ Some version → IsMessage P R events k version.numbers version.state
  pub updates : w.updates ≡ updates_before events i
  pub taken : w.events ≡ i

-- what a world that stands for a schedule answers to the event at place i: it stands for the schedule after one event more and answers what
-- is to be shown, where the event needs no more calls than the budget; else the budget is spent
abbrev pub GoesOn : Program → ReplicaDef → ℕ → List Event → ℕ → ℕ → Standing → Result (Option Shown) RunEnd → Type 0
GoesOn P R count events i budget new (Ok answer) = StandsFor P R count events (i + 1) new × IsWithin P R events budget i × IsAnswer P R events i answer
GoesOn P R count events i budget new (Err ends.Spent) = IsAbove P R events budget i
GoesOn P R count events i budget new (Err ends.NoMemory) = Unit {0}

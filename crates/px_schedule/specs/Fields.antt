-- For proofs: what the functions that read a line find in it.
use Rattle.std.specs.Prelude.{◌≡◌, ℕ, ◌+◌, ◌≤◌, ◌==◌, Bool, true, false, cond, List, [], ◌∷◌, ◌++◌, map, length, Some, slice_get, Contains, codes}
use Rattle.std.specs.Fmt.{decimal}
use Rattle.std.specs.Borrow.{Bor}
use Rattle.px_terms.specs.declared.program.ReplicaDef.{ReplicaDef}
use Rattle.px_terms.specs.declared.program.Program.{Program}
use Rattle.px_schedule.specs.declared.schedule.Event.{Event}
use Rattle.px_schedule.specs.declared.schedule.Event.TheVariants as event
use Rattle.px_schedule.specs.declared.schedule_end.ScheduleKind.{ScheduleKind}
use Rattle.px_schedule.specs.declared.schedule_end.ScheduleKind.TheVariants.{BadValue}
use Rattle.px_schedule.specs.declared.schedule_end.ScheduleEnd.{ScheduleEnd}
use Rattle.px_schedule.specs.declared.schedule_end.ScheduleEnd.TheVariants as schedule_end
use Rattle.px_schedule.specs.declared.value_end.ValueEnd.{ValueEnd}
use Rattle.px_schedule.specs.declared.value_end.ValueEnd.TheVariants as value_end
use Rattle.px_schedule.specs.declared.line_end.LineEnd.{LineEnd}
use Rattle.px_schedule.specs.declared.line_end.LineEnd.TheVariants as line_end
use Rattle.px_schedule.specs.declared.commands.Opening.{Opening}
use Rattle.px_schedule.specs.declared.commands.Request.{Request}
use Rattle.px_schedule.specs.declared.commands.Request.TheVariants as request
use Rattle.px_schedule.specs.declared.events.Opened.{Opened}
use Rattle.px_schedule.specs.declared.events.Taken.{Taken}
use Rattle.px_schedule.specs.declared.openings.FoundReplica.{FoundReplica}
use Rattle.px_schedule.specs.Schedules.{Command, replicas, update, send, deliver, show, HasForm, State, rules, Holds, FirstBroken, IsEventOf, IsKept, IsWrong, AreKept, ended, Breaks, IsDeclaration}
use Rattle.std.specs.List.{AllByRecursion, list_any}
use Rattle.std.specs.Str.{bytes_eq}

-- The text is cut at the first byte that is the mark.
pub record IsCut (mark : ℕ) (text front back : List ℕ) : Type 0 where
  pub whole : text ≡ front ++ mark ∷ back
  pub first : ¬ Contains front mark

-- there is a digit, and no zero before another
abbrev pub is_numeral : List ℕ → Bool
is_numeral [] = false
is_numeral (c ∷ []) = true
is_numeral (c ∷ d ∷ ds) = cond (c == 48) false true

-- the words of a table
abbrev pub words_of : List (Bor (List ℕ)) → List (List ℕ)
words_of = map (λ (word : Bor (List ℕ)). word.now)

-- whether a word stands in a table
unfoldable pub stands_in : List (Bor (List ℕ)) → List ℕ → Bool
stands_in words word = list_any (λ (other : Bor (List ℕ)). bytes_eq other.now word) words

-- the word that a command's line begins with
abbrev pub keyword : Command → List ℕ
keyword (replicas name count) = codes "replicas"
keyword (update r value) = codes "update"
keyword (send r) = codes "send"
keyword (deliver k r) = codes "deliver"
keyword (show r) = codes "show"

-- what stands behind that word and a space
abbrev pub fields_of : Command → List ℕ
fields_of (replicas name count) = name ++ 32 ∷ decimal count
fields_of (update r value) = decimal r ++ 32 ∷ value
fields_of (send r) = decimal r
fields_of (deliver k r) = decimal k ++ 32 ∷ decimal r
fields_of (show r) = decimal r

-- The word and the fields are those of the command.
pub record IsSaid (first rest : List ℕ) (command : Command) : Type 0 where
  pub form : HasForm command
  pub word : first ≡ keyword command
  pub fields : rest ≡ fields_of command

-- what an opening says
abbrev pub opening : Opening → Command
opening o = replicas o.name.now o.count

-- what a request says
abbrev pub said : Request → Command
said (request.Update r value) = update r value.now
said (request.Send r) = send r
said (request.Deliver k r) = deliver k r
said (request.Show r) = show r

-- What the first line opened is declared, and its state is of this type.
pub record IsOpened (P : Program) (o : Opened) : Type 0 where
  pub replica : ReplicaDef
  pub stands : slice_get P.replicas o.declaration ≡ Some replica
  pub state : replica.state ≡ o.state.now

-- what is known behind the first line
abbrev pub opened_state : Opened → State
opened_state o = record { declaration = Some o.declaration; count = o.count; messages = 0; events = 0 }

-- what is known where these events were taken
abbrev pub state_at : Opened → Taken → State
state_at o taken = record { declaration = Some o.declaration; count = o.count; messages = taken.messages; events = length taken.events }

-- The command keeps all rules, and asks for this event.
pub record Asks (P : Program) (S : State) (command : Command) (e : Event) : Type 0 where
  pub holds : AllByRecursion (Holds P S) (rules command)
  pub is_event : IsEventOf P S command e

-- what a refusal says of a command: of a fault that its first rule that is broken is of this kind
abbrev pub EndsBroken : Program → State → Command → LineEnd → Type 0
EndsBroken P S command (line_end.Fault kind) = FirstBroken P S kind (rules command)
EndsBroken P S command line_end.NoMemory = Unit {0}

-- what a refusal says of a line: of a fault that it breaks a rule of this kind
abbrev pub EndsWrong : Program → State → List ℕ → LineEnd → Type 0
EndsWrong P S line (line_end.Fault kind) = IsWrong P S line kind
EndsWrong P S line line_end.NoMemory = Unit {0}

-- how many messages an event sends
abbrev pub messages_of : Event → ℕ
messages_of (event.Update r v) = 0
messages_of (event.Send r) = 1
messages_of (event.Deliver k r) = 0
messages_of (event.Show r) = 0

-- The line keeps all rules, and its event was added.
pub record Adds (P : Program) (o : Opened) (before : Taken) (line : List ℕ) (later : Taken) : Type 0 where
  pub event : Event
  pub kept : IsKept P (state_at o before) line (state_at o later) (event ∷ [])
  pub events : later.events ≡ before.events ++ event ∷ []
  pub few : later.messages ≤ length later.events

-- Each line up to the rest was kept, and the next one has this number; the first of them stands on line 2.
pub record AreTaken (P : Program) (o : Opened) (text : List ℕ) (line : ℕ) (taken : Taken) (rest : List ℕ) : Type 0 where
  pub lines : List (List ℕ)
  pub whole : text ≡ ended lines ++ rest
  pub kept : AreKept P (opened_state o) lines (state_at o taken) taken.events
  pub number : line ≡ length lines + 2

-- The text is lines that keep all rules behind the first, with these events.
pub record AreEvents (P : Program) (o : Opened) (text : List ℕ) (events : List Event) : Type 0 where
  pub lines : List (List ℕ)
  pub state : State
  pub whole : text ≡ ended lines
  pub kept : AreKept P (opened_state o) lines state events
  pub declaration : state.declaration ≡ Some o.declaration
  pub count : state.count ≡ o.count

-- Behind the first line, the lines before the line of this number keep all rules, and that line breaks one of this kind.
pub record IsLaterFault (P : Program) (o : Opened) (text : List ℕ) (line : ℕ) (kind : ScheduleKind) : Type 0 where
  pub lines : List (List ℕ)
  pub rest : List ℕ
  pub state : State
  pub events : List Event
  pub whole : text ≡ ended lines ++ rest
  pub kept : AreKept P (opened_state o) lines state events
  pub number : line ≡ length lines + 2
  pub breaks : Breaks P state rest kind

-- what a refusal says of the text behind the first line
abbrev pub EndsLater : Program → Opened → List ℕ → ScheduleEnd → Type 0
EndsLater P o text (schedule_end.Fault line kind) = IsLaterFault P o text line kind
EndsLater P o text schedule_end.NoMemory = Unit {0}

-- A replica declaration that has a name.
pub record IsFoundReplica (P : Program) (name : List ℕ) (found : FoundReplica) : Type 0 where
  pub is_declaration : IsDeclaration P name found.number
  pub replica : ReplicaDef
  pub stands : slice_get P.replicas found.number ≡ Some replica
  pub state : replica.state ≡ found.state.now

-- what a refusal of a value says of its line
abbrev pub of_value : ValueEnd → LineEnd
of_value value_end.Fault = line_end.Fault BadValue
of_value value_end.NoMemory = line_end.NoMemory

-- the refusal of the line of this number
abbrev pub at_line : ℕ → LineEnd → ScheduleEnd
at_line line (line_end.Fault kind) = schedule_end.Fault line kind
at_line line line_end.NoMemory = schedule_end.NoMemory

-- Which texts are which schedules, and which line is the first that breaks a rule.
use Rattle.std.specs.Prelude.{◌≡◌, ℕ, ◌+◌, ◌<◌, ◌≤◌, ◌^◌, List, [], ◌∷◌, ◌++◌, length, Option, Some, None, slice_get, Contains, codes, flat_map}
use Rattle.std.specs.List.{AllByRecursion}
use Rattle.std.specs.Fmt.{decimal}
use Rattle.px_base.specs.declared.limits.TheConstants.{EVENTS, REPLICAS}
use Rattle.px_base.specs.NameForms.{IsLowerName}
use Rattle.px_terms.specs.declared.term.Value.{Value}
use Rattle.px_terms.specs.declared.program.ReplicaDef.{ReplicaDef}
use Rattle.px_terms.specs.declared.program.Program.{Program}
use Rattle.px_schedule.specs.declared.schedule.Event.{Event}
use Rattle.px_schedule.specs.declared.schedule.Event.TheVariants as event
use Rattle.px_schedule.specs.declared.schedule.Schedule.{Schedule}
use Rattle.px_schedule.specs.declared.schedule_end.ScheduleKind.{ScheduleKind}
use Rattle.px_schedule.specs.declared.schedule_end.ScheduleKind.TheVariants.{Form, UnknownReplicaType, NoSuchReplica, NoSuchMessage, BadValue, TooMany}
use Rattle.px_schedule.specs.declared.schedule_end.ScheduleEnd.{ScheduleEnd}
use Rattle.px_schedule.specs.declared.schedule_end.ScheduleEnd.TheVariants.{Fault, NoMemory}
use Rattle.px_schedule.specs.ValueGrammar.{IsText}

-- what a line says
pub data Command : Type 0 where
  replicas : List ℕ → ℕ → Command
  update : ℕ → List ℕ → Command
  send : ℕ → Command
  deliver : ℕ → ℕ → Command
  show : ℕ → Command

-- a command's line, without its line feed
abbrev pub line_of : Command → List ℕ
line_of (replicas name count) = codes "replicas " ++ (name ++ (codes " " ++ decimal count))
line_of (update r value) = codes "update " ++ (decimal r ++ (codes " " ++ value))
line_of (send r) = codes "send " ++ decimal r
line_of (deliver k r) = codes "deliver " ++ (decimal k ++ (codes " " ++ decimal r))
line_of (show r) = codes "show " ++ decimal r

-- the name has the form of one, and the numbers are below 2^64
abbrev pub HasForm : Command → Type 0
HasForm (replicas name count) = IsLowerName name × (count < 2 ^ 64)
HasForm (update r value) = r < 2 ^ 64
HasForm (send r) = r < 2 ^ 64
HasForm (deliver k r) = (k < 2 ^ 64) × (r < 2 ^ 64)
HasForm (show r) = r < 2 ^ 64

-- What is known at a line: which replica is declared, how many replicas there are, and how many messages were sent and how many
-- events took place before. Nothing is declared before the first line.
pub record State : Type 0 where
  pub declaration : Option ℕ
  pub count : ℕ
  pub messages : ℕ
  pub events : ℕ

-- before the first line
abbrev pub start : State
start = record { declaration = None; count = 0; messages = 0; events = 0 }

-- the number of replicas is named on the first line, and only there
abbrev pub IsDueAt : Option ℕ → Command → Type 0
IsDueAt None (replicas name count) = Unit {0}
IsDueAt None (update r value) = ⊥
IsDueAt None (send r) = ⊥
IsDueAt None (deliver k r) = ⊥
IsDueAt None (show r) = ⊥
IsDueAt (Some n) (replicas name count) = ⊥
IsDueAt (Some n) (update r value) = Unit {0}
IsDueAt (Some n) (send r) = Unit {0}
IsDueAt (Some n) (deliver k r) = Unit {0}
IsDueAt (Some n) (show r) = Unit {0}

-- where this replica is declared, or none yet, the line is this command's
pub record IsLineOf (declaration : Option ℕ) (line : List ℕ) (command : Command) : Type 0 where
  pub form : HasForm command
  pub spelled : line ≡ line_of command
  pub due : IsDueAt declaration command

-- the name is that of the replica declaration of this number; declarations are numbered below 2^32
pub record IsDeclaration (P : Program) (name : List ℕ) (n : ℕ) : Type 0 where
  pub named : slice_get P.names.replicas n ≡ Some name
  pub declared : n < length P.replicas
  pub small : n < 2 ^ 32

-- the text is this value of the state's type
pub record IsStateText (P : Program) (S : State) (text : List ℕ) (v : Value) : Type 0 where
  pub number : ℕ
  pub replica : ReplicaDef
  pub is_declared : S.declaration ≡ Some number
  pub stands : slice_get P.replicas number ≡ Some replica
  pub is_text : IsText P replica.state text v

-- what a command may break
pub data Rule : Type 0 where
  declares : List ℕ → Rule
  few : ℕ → Rule
  room : Rule
  replica : ℕ → Rule
  message : ℕ → Rule
  value : List ℕ → Rule

-- the rules of a command, in the order in which they are tried: the number of events, and then its fields from left to right
abbrev pub rules : Command → List Rule
rules (replicas name count) = declares name ∷ few count ∷ []
rules (update r text) = room ∷ replica r ∷ value text ∷ []
rules (send r) = room ∷ replica r ∷ []
rules (deliver k r) = room ∷ message k ∷ replica r ∷ []
rules (show r) = room ∷ replica r ∷ []

-- the rule is kept: a replica declaration has the name; there are 1 to REPLICAS replicas; one event more is within EVENTS; there
-- is a replica of this number; a message of this number was sent before; the text is a value of the state's type
abbrev pub Holds : Program → State → Rule → Type 0
Holds P S (declares name) = (n : ℕ) × IsDeclaration P name n
Holds P S (few count) = (1 ≤ count) × (count ≤ REPLICAS)
Holds P S room = S.events < EVENTS
Holds P S (replica r) = r < S.count
Holds P S (message k) = k < S.messages
Holds P S (value text) = (v : Value) × IsStateText P S text v

-- what it is called where the rule is broken
abbrev pub kind_of : Rule → ScheduleKind
kind_of (declares name) = UnknownReplicaType
kind_of (few count) = TooMany
kind_of room = TooMany
kind_of (replica r) = NoSuchReplica
kind_of (message k) = NoSuchMessage
kind_of (value text) = BadValue

-- the first of the rules that is broken is of this kind
pub data FirstBroken (P : Program) (S : State) (kind : ScheduleKind) : List Rule → Type 0 where
  here : {rule : Rule} {others : List Rule} → ¬ Holds P S rule → kind ≡ kind_of rule → FirstBroken P S kind (rule ∷ others)
  later : {rule : Rule} {others : List Rule} → Holds P S rule → FirstBroken P S kind others → FirstBroken P S kind (rule ∷ others)

-- what is known behind an event
abbrev pub after : State → Event → State
after S (event.Update r v) = record S { events = S.events + 1 }
after S (event.Send r) = record S { messages = S.messages + 1; events = S.events + 1 }
after S (event.Deliver k r) = record S { events = S.events + 1 }
after S (event.Show r) = record S { events = S.events + 1 }

-- the event that a command asks for
abbrev pub IsEventOf : Program → State → Command → Event → Type 0
IsEventOf P S (replicas name count) e = ⊥
IsEventOf P S (update r text) e = (v : Value) × (e ≡ event.Update r v) × IsStateText P S text v
IsEventOf P S (send r) e = e ≡ event.Send r
IsEventOf P S (deliver k r) e = e ≡ event.Deliver k r
IsEventOf P S (show r) e = e ≡ event.Show r

-- what a command leaves: what is known behind it, and the event that it asks for, if it asks for one
pub data Takes (P : Program) (S : State) (command : Command) (T : State) (events : List Event) : Type 0 where
  begins : (name : List ℕ) (count n : ℕ) → command ≡ replicas name count → IsDeclaration P name n → T ≡ record { declaration = Some n; count = count; messages = 0; events = 0 } → events ≡ [] →
      Takes P S command T events
  goes_on : (e : Event) → IsEventOf P S command e → T ≡ after S e → events ≡ e ∷ [] → Takes P S command T events

-- a line that keeps all rules, what is known behind it and its events
pub record IsKept (P : Program) (S : State) (line : List ℕ) (T : State) (events : List Event) : Type 0 where
  pub command : Command
  pub one_line : ¬ Contains line 10
  pub is_line : IsLineOf S.declaration line command
  pub holds : AllByRecursion (Holds P S) (rules command)
  pub takes : Takes P S command T events

-- lines that keep all rules, one after the other, what is known behind them and their events
pub data AreKept (P : Program) : State → List (List ℕ) → State → List Event → Type 0 where
  none : {S : State} → AreKept P S [] S []
  more : {S T U : State} {line : List ℕ} {lines : List (List ℕ)} {events others all : List Event} → IsKept P S line T events → AreKept P T lines U others →
      all ≡ events ++ others → AreKept P S (line ∷ lines) U all

-- the text of lines, each ended by a line feed
abbrev pub ended : List (List ℕ) → List ℕ
ended = flat_map (λ (line : List ℕ). line ++ 10 ∷ [])

-- The text is this schedule: lines that keep all rules, the first of which declares.
pub record IsSchedule (P : Program) (text : List ℕ) (schedule : Schedule) : Type 0 where
  pub lines : List (List ℕ)
  pub state : State
  pub whole : text ≡ ended lines
  pub kept : AreKept P start lines state schedule.events
  pub declaration : state.declaration ≡ Some schedule.declaration
  pub count : state.count ≡ schedule.count

-- The text goes on with this line.
pub record BeginsWith (text line : List ℕ) : Type 0 where
  pub rest : List ℕ
  pub whole : text ≡ line ++ 10 ∷ rest
  pub one_line : ¬ Contains line 10

-- a line breaks a rule of this kind: it is no command's that may stand there, or its command's first rule that is broken is of
-- this kind
pub data IsWrong (P : Program) (S : State) (line : List ℕ) (kind : ScheduleKind) : Type 0 where
  formless : ((command : Command) → ¬ IsLineOf S.declaration line command) → kind ≡ Form → IsWrong P S line kind
  broken : (command : Command) → IsLineOf S.declaration line command → FirstBroken P S kind (rules command) → IsWrong P S line kind

-- what the text goes on with breaks a rule of this kind: nothing stands where the first line is due; bytes, but no line feed; or a
-- line that breaks one
pub data Breaks (P : Program) (S : State) (text : List ℕ) (kind : ScheduleKind) : Type 0 where
  ends : text ≡ [] → S.declaration ≡ None → kind ≡ Form → Breaks P S text kind
  unfinished : 0 < length text → ¬ Contains text 10 → kind ≡ Form → Breaks P S text kind
  wrong : (line : List ℕ) → BeginsWith text line → IsWrong P S line kind → Breaks P S text kind

-- The lines before the line of this number, counted from 1, keep all rules, and that line breaks one of this kind.
pub record IsFault (P : Program) (text : List ℕ) (line : ℕ) (kind : ScheduleKind) : Type 0 where
  pub lines : List (List ℕ)
  pub rest : List ℕ
  pub state : State
  pub events : List Event
  pub whole : text ≡ ended lines ++ rest
  pub kept : AreKept P start lines state events
  pub number : line ≡ length lines + 1
  pub breaks : Breaks P state rest kind

-- what a refusal says: of a fault its line and its kind, and of want of memory nothing
abbrev pub IsEnd : Program → List ℕ → ScheduleEnd → Type 0
IsEnd P text (Fault line kind) = IsFault P text line kind
IsEnd P text NoMemory = Unit {0}

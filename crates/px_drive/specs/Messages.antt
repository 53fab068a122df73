-- What an end prints, and its status.
use Rattle.std.specs.Prelude.{ℕ, ◌-◌, List, [], ◌++◌, length, codes}
use Rattle.std.specs.List.{flat_map}
use Rattle.std.specs.Fmt.{decimal}
use Rattle.std.specs.Borrow.{Bor}
use Rattle.px_base.specs.declared.names.Names.{Names}
use Rattle.px_terms.specs.declared.term.Value.{Value}
use Rattle.px_terms.specs.declared.program.Program.{Program}
use Rattle.px_machine.specs.ValueText.{value_text}
use Rattle.px_replay.specs.declared.ends.Why.{Why}
use Rattle.px_replay.specs.declared.ends.Why.TheVariants as reasons
use Rattle.px_schedule.specs.declared.schedule_end.ScheduleKind.{ScheduleKind}
use Rattle.px_schedule.specs.declared.schedule_end.ScheduleKind.TheVariants as rules
use Rattle.px_scope.specs.declared.ends.ScopeKind.{ScopeKind}
use Rattle.px_scope.specs.declared.ends.ScopeKind.TheVariants.{Unknown, Repeated, Later, WrongPlace}
use Rattle.px_types.specs.declared.ends.TypeKind.{TypeKind}
use Rattle.px_types.specs.declared.ends.TypeKind.TheVariants.{Mismatch, Arity, ArmMissing, ArmRepeated, LacksProperty, PropertyShape, NotJoin, Oversize}
use Rattle.px_drive.specs.declared.outcome.ArgumentKind.{ArgumentKind}
use Rattle.px_drive.specs.declared.outcome.ArgumentKind.TheVariants.{NoSuchName, NotPlain, Count, BadValue}
use Rattle.px_drive.specs.declared.outcome.End.{End}
use Rattle.px_drive.specs.declared.outcome.End.TheVariants.{Done, Usage, Source, Rejected, Schedule, Spent, ReadFault, WriteFault, NoMemory, TooLong, Arguments}
use Rattle.px_drive.specs.declared.outcome.SourceFault.{SourceFault}
use Rattle.px_drive.specs.declared.outcome.SourceFault.TheVariants.{Lex, Parse, Scope, Typing, Descent}
use Rattle.px_drive.specs.declared.outcome.Which.TheVariants as which

-- the bytes of pieces, one after the other
abbrev pub bytes_of_all : List (Bor (List ℕ)) → List ℕ
bytes_of_all pieces = flat_map (λ piece. piece.now) pieces

-- what `check` prints where it is done, of the program: how many datatypes besides `Bool`, definitions and obligations it has
abbrev pub checked_line : Program → List ℕ
checked_line P = codes "checked: datatypes " ++ (decimal (length P.datatypes - 1) ++ (codes ", definitions " ++ (decimal (length P.defs) ++ (codes ", obligations " ++ (decimal (length P.declared) ++ codes "\n")))))

-- what `replay` prints where it is done, of so many obligations
abbrev pub accepted_line : ℕ → List ℕ
accepted_line n = codes "accepted " ++ (decimal n ++ codes "\n")

-- what `eval` prints where it is done, by the text of the value and the number of calls
abbrev pub evaluated_by : List ℕ → ℕ → List ℕ
evaluated_by text calls = text ++ (codes "\ncalls " ++ (decimal calls ++ codes "\n"))

-- what `eval` prints where it is done, of the value and the number of calls
abbrev pub evaluated_lines : Names → Value → ℕ → List ℕ
evaluated_lines names v calls = evaluated_by (value_text names v) calls

-- a rule of scope, in words
abbrev pub scope_words : ScopeKind → List ℕ
scope_words Unknown = codes "unknown"
scope_words Repeated = codes "repeated"
scope_words Later = codes "later"
scope_words WrongPlace = codes "wrong-place"

-- a rule of typing, in words
abbrev pub type_words : TypeKind → List ℕ
type_words Mismatch = codes "mismatch"
type_words Arity = codes "arity"
type_words ArmMissing = codes "arm-missing"
type_words ArmRepeated = codes "arm-repeated"
type_words LacksProperty = codes "lacks-property"
type_words PropertyShape = codes "property-shape"
type_words NotJoin = codes "not-join"
type_words Oversize = codes "oversize"

-- the line of a text that is refused, with its line feed
abbrev pub source_line : SourceFault → List ℕ
source_line (Lex at) = codes "source: lex at " ++ (decimal at ++ codes "\n")
source_line (Parse at) = codes "source: parse at " ++ (decimal at ++ codes "\n")
source_line (Scope kind at) = codes "source: scope " ++ (scope_words kind ++ (codes " at " ++ (decimal at ++ codes "\n")))
source_line (Typing kind at) = codes "source: type " ++ (type_words kind ++ (codes " at " ++ (decimal at ++ codes "\n")))
source_line (Descent def call) = codes "source: descent definition " ++ (decimal def ++ (codes " call " ++ (decimal call ++ codes "\n")))

-- what is wrong with a line, in words
abbrev pub why_words : Why → List ℕ
why_words reasons.Form = codes "form"
why_words reasons.Order = codes "order"
why_words reasons.Rule = codes "rule"
why_words reasons.End = codes "end"

-- the line of a derivation that is refused, with its line feed
abbrev pub rejected_line : ℕ → Why → List ℕ
rejected_line line why = codes "rejected: line " ++ (decimal line ++ (codes " " ++ (why_words why ++ codes "\n")))

-- a rule of schedules, in words
abbrev pub schedule_words : ScheduleKind → List ℕ
schedule_words rules.Form = codes "form"
schedule_words rules.UnknownReplicaType = codes "unknown-replica-type"
schedule_words rules.NoSuchReplica = codes "no-such-replica"
schedule_words rules.NoSuchMessage = codes "no-such-message"
schedule_words rules.BadValue = codes "bad-value"
schedule_words rules.TooMany = codes "too-many"

-- the line of a schedule that is refused, with its line feed
abbrev pub schedule_line : ℕ → ScheduleKind → List ℕ
schedule_line line kind = codes "schedule: line " ++ (decimal line ++ (codes " " ++ (schedule_words kind ++ codes "\n")))

-- why arguments are refused, in words
abbrev pub argument_words : ArgumentKind → List ℕ
argument_words NoSuchName = codes "no-such-name"
argument_words NotPlain = codes "not-plain"
argument_words Count = codes "count"
argument_words BadValue = codes "bad-value"

-- the line of arguments that are refused, with its line feed
abbrev pub arguments_line : ArgumentKind → ℕ → List ℕ
arguments_line kind word = codes "arguments: " ++ (argument_words kind ++ (codes " " ++ (decimal word ++ codes "\n")))

-- the line of a call that takes too many calls, with its line feed
abbrev pub spent_line : ℕ → List ℕ
spent_line event = codes "spent: event " ++ (decimal event ++ codes "\n")

-- the line that an end prints as an error, with its line feed; where the work is done there is none
abbrev pub message_of : End → List ℕ
message_of Done = []
message_of Usage = codes "usage: propel check F | replay F D | eval F NAME V.. [--calls N] | run F D S [--calls N]\n"
message_of (Source fault) = source_line fault
message_of (Rejected line why) = rejected_line line why
message_of (Schedule line kind) = schedule_line line kind
message_of (Spent event) = spent_line event
message_of ReadFault = codes "read fault\n"
message_of WriteFault = codes "write fault\n"
message_of NoMemory = codes "no memory\n"
message_of (TooLong which.Program) = codes "too long: program\n"
message_of (TooLong which.Derivation) = codes "too long: derivation\n"
message_of (TooLong which.Schedule) = codes "too long: schedule\n"
message_of (Arguments kind word) = arguments_line kind word

-- the status that the program ends with
abbrev pub status_of : End → ℕ
status_of Done = 0
status_of Usage = 2
status_of (Source _) = 3
status_of (Rejected _ _) = 5
status_of (Schedule _ _) = 6
status_of (Spent _) = 7
status_of ReadFault = 8
status_of WriteFault = 9
status_of NoMemory = 10
status_of (TooLong _) = 11
status_of (Arguments _ _) = 13

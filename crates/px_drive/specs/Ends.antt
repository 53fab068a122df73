-- The table of causes. A command is a chain of stages, in the order of its refusals: a later stage begins only where
-- each earlier one answered a value, so an end comes only where its own stage has it and no earlier one refused.
use Rattle.std.specs.Prelude.{◌≡◌, ℕ, ◌<◌, ◌≤◌, ◌⊎◌, List, [], length, take, IsTrue, ⊤, Result, Ok, Err}
use Rattle.std.specs.Io.KnownBytes.{Appends, Consumes}
use Rattle.px_terms.specs.declared.types.Ty.{Ty}
use Rattle.px_terms.specs.declared.term.Value.{Value}
use Rattle.px_terms.specs.declared.program.Program.{Program}
use Rattle.px_terms.specs.limits.TheConstants.{PROGRAM_BYTES, DERIVATION_BYTES, SCHEDULE_BYTES}
use Rattle.px_machine.specs.declared.runs.Done.{Done as Answer}
use Rattle.px_schedule.specs.declared.schedule.Schedule.{Schedule as Recorded}
use Rattle.px_schedule.specs.Schedules.{IsSchedule, IsFault}
use Rattle.px_world.specs.Known.{Told}
use Rattle.px_world.specs.Faults.{Rose}
use Rattle.px_drive.specs.declared.outcome.CommandLine.{CommandLine}
use Rattle.px_drive.specs.declared.outcome.CommandLine.TheVariants.{Check, Replay, Eval, Run}
use Rattle.px_drive.specs.declared.outcome.Which.{Which}
use Rattle.px_drive.specs.declared.outcome.Which.TheVariants as which
use Rattle.px_drive.specs.declared.outcome.End.{End}
use Rattle.px_drive.specs.declared.outcome.End.TheVariants.{Done, Rejected, Schedule, Spent, ReadFault, WriteFault, NoMemory, TooLong, Arguments}
use Rattle.px_drive.specs.declared.outcome.ArgumentKind.TheVariants.{BadValue}
use Rattle.px_drive.specs.declared.arguments.ClosedCall.{ClosedCall}
use Rattle.px_drive.specs.Messages.{checked_line, accepted_line, evaluated_by}
use Rattle.px_drive.specs.Seen.{FilesSeen, SinkSeen}
use Rattle.px_drive.specs.Sources.{Sources}
use Rattle.px_drive.specs.Derivations.{IsDerivationOf, IsRejected}
use Rattle.px_drive.specs.Arguments.{AreValuesOf, IsFirstBad, IsCall, IsNoCall, IsValueOfCall}
use Rattle.px_drive.specs.Recordings.{IsWholeRun, IsSpentRun, IsCutRun}
use Rattle.px_machine.specs.ValueText.{value_text}

-- how many bytes a text may have
abbrev pub limit_of : Which → ℕ
limit_of which.Program = PROGRAM_BYTES
limit_of which.Derivation = DERIVATION_BYTES
limit_of which.Schedule = SCHEDULE_BYTES

-- Reading a text whole: its bytes, within the limit; or too long, where more bytes than the limit came; or a fault,
-- where the count rose and no more bytes than the limit came before.
abbrev pub ReadsText : Which → FilesSeen → List ℕ → Result (List ℕ) End → Type 0
ReadsText text files name (Ok bytes) = Told (files.bytes name) bytes × (length bytes ≤ limit_of text)
ReadsText text files name (Err (TooLong long)) = (long ≡ text) × ((came : List ℕ) × Consumes (files.bytes name) files.left came × (limit_of text < length came))
ReadsText text files name (Err ReadFault) = Rose files.before files.after × (IsTrue files.opened → (came : List ℕ) × Consumes (files.bytes name) files.left came × (length came ≤ limit_of text))
ReadsText text files name (Err NoMemory) = ⊤
ReadsText text files name (Err _) = ⊥

-- the number of obligations of a program of which the bytes are a derivation; or the line with which they are none, and why
abbrev pub Accepts : Program → List ℕ → Result ℕ End → Type 0
Accepts program bytes (Ok n) = IsDerivationOf program bytes × (n ≡ length program.declared)
Accepts program bytes (Err (Rejected line why)) = IsRejected program bytes line why
Accepts program bytes (Err NoMemory) = ⊤
Accepts program bytes (Err _) = ⊥

-- the text of a program was read, and the program that it is; or one of both was refused
abbrev pub ReadsSource : FilesSeen → List ℕ → Result Program End → Type 0
ReadsSource files name (Ok program) = (text : List ℕ) × ReadsText which.Program files name (Ok text) × Sources text (Ok program)
ReadsSource files name (Err end) = ReadsText which.Program files name (Err end) ⊎ ((text : List ℕ) × ReadsText which.Program files name (Ok text) × Sources text (Err end))

-- the values of these types that the words are; or the number of the first word that is none of its type
abbrev pub ReadsValues : Program → List Ty → List (List ℕ) → Result (List Value) End → Type 0
ReadsValues program types words (Ok values) = AreValuesOf program types words values
ReadsValues program types words (Err (Arguments kind number)) = (kind ≡ BadValue) × IsFirstBad program types words number
ReadsValues program types words (Err NoMemory) = ⊤
ReadsValues program types words (Err _) = ⊥

-- the call of a program that the name and the words are; or why they are none
abbrev pub FindsCall : Program → List ℕ → List (List ℕ) → Result ClosedCall End → Type 0
FindsCall program name words (Ok call) = IsCall program name words call
FindsCall program name words (Err (Arguments kind number)) = IsNoCall program name words kind number
FindsCall program name words (Err NoMemory) = ⊤
FindsCall program name words (Err _) = ⊥

-- the value of the call by its meaning, with its number of calls, which is within the budget; or that number is above it
abbrev pub Evaluates : Program → ClosedCall → ℕ → Result Answer End → Type 0
Evaluates program call budget (Ok done) = IsValueOfCall program call done.value done.calls × (done.calls ≤ budget)
Evaluates program call budget (Err (Spent event)) = (event ≡ 0) × ((v : Value) × (calls : ℕ) × IsValueOfCall program call v calls × (budget < calls))
Evaluates program call budget (Err NoMemory) = ⊤
Evaluates program call budget (Err _) = ⊥

-- the text of a value, where memory is left for it
abbrev pub Spells : List ℕ → Result (List ℕ) End → Type 0
Spells text (Ok bytes) = bytes ≡ text
Spells text (Err NoMemory) = ⊤
Spells text (Err _) = ⊥

-- the schedule that the bytes are; or the first line that breaks a rule, and the rule
abbrev pub Schedules : Program → List ℕ → Result Recorded End → Type 0
Schedules program bytes (Ok schedule) = IsSchedule program bytes schedule
Schedules program bytes (Err (Schedule line kind)) = IsFault program bytes line kind
Schedules program bytes (Err NoMemory) = ⊤
Schedules program bytes (Err _) = ⊥

-- the last stage prints its line: whole where the work is done, and a front of it where the count of the sink rose
abbrev pub Prints : List ℕ → SinkSeen → End → List ℕ → Type 0
Prints line out Done printed = printed ≡ line
Prints line out WriteFault printed = Rose out.before out.after × ((n : ℕ) × (printed ≡ take n line))
Prints line out _ printed = ⊥

-- the last stage runs the events one after the other, and prints the line of a show at its event: all of them where the work is done; those
-- before the event that is not within the budget; and a front of them all where the count of the sink rose, or memory ran out
abbrev pub RunsEvents : Program → Recorded → ℕ → SinkSeen → End → List ℕ → Type 0
RunsEvents program schedule budget out Done printed = IsWholeRun program schedule budget printed
RunsEvents program schedule budget out (Spent event) printed = IsSpentRun program schedule budget event printed
RunsEvents program schedule budget out WriteFault printed = Rose out.before out.after × IsCutRun program schedule printed
RunsEvents program schedule budget out NoMemory printed = IsCutRun program schedule printed
RunsEvents program schedule budget out _ printed = ⊥

-- a stage that ends the command before it printed, or that answers a value for the rest
abbrev pub AndThen : {T : Type 0} → (Result T End → Type 0) → (T → End → List ℕ → Type 0) → End → List ℕ → Type 0
AndThen {T} stage rest end printed = (stage (Err end) × (printed ≡ [])) ⊎ ((value : T) × stage (Ok value) × rest value end printed)

-- where a line ends, and what it printed: a row for each command
abbrev pub LineEnds : FilesSeen → SinkSeen → CommandLine → End → List ℕ → Type 0
LineEnds files out (Check file) =
    AndThen (ReadsText which.Program files file) (λ text.
    AndThen (Sources text) (λ program.
    Prints (checked_line program) out))
LineEnds files out (Replay file derivation) =
    AndThen (ReadsText which.Program files file) (λ text.
    AndThen (Sources text) (λ program.
    AndThen (ReadsText which.Derivation files derivation) (λ bytes.
    AndThen (Accepts program bytes) (λ n.
    Prints (accepted_line n) out))))
LineEnds files out (Eval file name values budget) =
    AndThen (ReadsText which.Program files file) (λ text.
    AndThen (Sources text) (λ program.
    AndThen (FindsCall program name values) (λ call.
    AndThen (Evaluates program call budget) (λ done.
    AndThen (Spells (value_text program.names done.value)) (λ bytes.
    Prints (evaluated_by bytes done.calls) out)))))
LineEnds files out (Run file derivation schedule budget) =
    AndThen (ReadsText which.Program files file) (λ text.
    AndThen (Sources text) (λ program.
    AndThen (ReadsText which.Derivation files derivation) (λ bytes.
    AndThen (Accepts program bytes) (λ n.
    AndThen (ReadsText which.Schedule files schedule) (λ lines.
    AndThen (Schedules program lines) (λ recorded.
    RunsEvents program recorded budget out))))))

-- a line ends so, and the sink gained what the line printed
pub record Runs (files : FilesSeen) (out : SinkSeen) (line : CommandLine) (end : End) : Type 0 where
  pub printed : List ℕ
  pub allowed : LineEnds files out line end printed
  pub wrote : Appends out.old out.new printed

-- the end of a command whose work is done, or was refused
abbrev pub end_of : Result (Unit {0}) End → End
end_of (Ok _) = Done
end_of (Err end) = end

-- What the table of causes says of every call of `run`.
use Rattle.std.specs.Prelude.{◌≡◌, ℕ, ◌<◌, ◌⊎◌, List, [], length, take, Some, slice_get}
use Rattle.px_terms.specs.declared.program.ReplicaDef.{ReplicaDef}
use Rattle.px_terms.specs.declared.program.Program.{Program}
use Rattle.px_replay.specs.declared.ends.Why.{Why}
use Rattle.px_schedule.specs.declared.schedule.Schedule.{Schedule as Recorded}
use Rattle.px_schedule.specs.declared.schedule_end.ScheduleKind.{ScheduleKind}
use Rattle.px_schedule.specs.Schedules.{IsSchedule, IsFault}
use Rattle.px_replicas.specs.Joins.{MergeJoins}
use Rattle.px_replicas.specs.Lines.{AreLines}
use Rattle.px_world.specs.Known.{Told, IsLonger}
use Rattle.px_drive.specs.declared.outcome.CommandLine.TheVariants.{Run}
use Rattle.px_drive.specs.declared.outcome.Which.TheVariants as which
use Rattle.px_drive.specs.declared.outcome.End.{End}
use Rattle.px_drive.specs.declared.outcome.End.TheVariants.{Done, Rejected, Schedule, Spent, ReadFault, WriteFault, NoMemory, TooLong}
use Rattle.px_drive.specs.Seen.{FilesSeen, SinkSeen}
use Rattle.px_drive.specs.Sources.{IsSource}
use Rattle.px_drive.specs.Derivations.{IsDerivationOf, IsRejected}
use Rattle.px_drive.specs.Ends.{limit_of, LineEnds}
use Rattle.px_drive.specs.Completeness.{HasText}
use Rattle.px_drive.specs.Laws.{IsRefused}
use Rattle.px_drive.specs.Recordings.{IsWholeRun, IsSpentRun, IsCutRun}
use Rattle.px_drive.specs.RunHeadline.{Agree}

-- where the program of a text has a derivation, the merge of each of its replica declarations is commutative, associative and idempotent in
-- the language's meaning
abbrev pub MergesJoin : Type 0
MergesJoin = (text steps : List ℕ) (P : Program) (number : ℕ) (R : ReplicaDef) → IsSource text P → IsDerivationOf P steps → slice_get P.replicas number ≡ Some R → MergeJoins P R

-- a front of the lines of a schedule's first shows is one of the lines of all its shows
abbrev pub CutIsFront : Type 0
CutIsFront = (P : Program) (S : Recorded) (R : ReplicaDef) (printed whole : List ℕ) → slice_get P.replicas S.declaration ≡ Some R → IsCutRun P S printed → AreLines P R S.events (length S.events) whole → (count : ℕ) × (printed ≡ take count whole)

-- These bytes are a front of the lines of all shows of the schedule.
pub record IsFrontOfAll (P : Program) (S : Recorded) (printed : List ℕ) : Type 0 where
  pub R : ReplicaDef
  pub declared : slice_get P.replicas S.declaration ≡ Some R
  pub whole : List ℕ
  pub lines : AreLines P R S.events (length S.events) whole
  pub count : ℕ
  pub front : printed ≡ take count whole

-- a schedule of a program that has a derivation has lines of all its shows, and what was printed where it was run in part is a front of them
abbrev pub CutIsFrontOfAll : Type 0
CutIsFrontOfAll = (text steps lines printed : List ℕ) (P : Program) (S : Recorded) → IsSource text P → IsDerivationOf P steps → IsSchedule P lines S → IsCutRun P S printed → IsFrontOfAll P S printed

-- the lines of a schedule's shows agree: two of them with the same numbers have the same text of a state
abbrev pub LinesAgree : Type 0
LinesAgree = (P : Program) (R : ReplicaDef) (S : Recorded) (place : ℕ) (printed : List ℕ) → AreLines P R S.events place printed → Agree printed

-- The texts of a run, which are the files' where these are told, are a program, a derivation of it and a schedule.
pub record HasTexts (files : FilesSeen) (file derivation schedule : List ℕ) (P : Program) (S : Recorded) : Type 0 where
  pub text : List ℕ
  pub steps : List ℕ
  pub lines : List ℕ
  pub text_is : Told (files.bytes file) text
  pub steps_is : Told (files.bytes derivation) steps
  pub lines_is : Told (files.bytes schedule) lines
  pub is_source : IsSource text P
  pub is_derivation : IsDerivationOf P steps
  pub is_schedule : IsSchedule P lines S

-- where `run` ends Done, all lines were printed, and each event is within the budget
abbrev pub DoneIsRun : Type 0
DoneIsRun = (files : FilesSeen) (out : SinkSeen) (file derivation schedule : List ℕ) (budget : ℕ) (printed : List ℕ) → LineEnds files out (Run file derivation schedule budget) Done printed
    → (P : Program) × (S : Recorded) × HasTexts files file derivation schedule P S × IsWholeRun P S budget printed

-- where `run` ends Spent, the event of its number is the first that is not within the budget, and the lines before it were printed
abbrev pub SpentIsFirst : Type 0
SpentIsFirst = (files : FilesSeen) (out : SinkSeen) (file derivation schedule : List ℕ) (budget event : ℕ) (printed : List ℕ) → LineEnds files out (Run file derivation schedule budget) (Spent event) printed
    → (P : Program) × (S : Recorded) × HasTexts files file derivation schedule P S × IsSpentRun P S budget event printed

-- where `run` ends with a fault of writing, or without memory, nothing was printed, or a front of the lines of its first shows
abbrev pub CutIsRun : Type 0
CutIsRun = (files : FilesSeen) (out : SinkSeen) (file derivation schedule : List ℕ) (budget : ℕ) (end : End) (printed : List ℕ) → LineEnds files out (Run file derivation schedule budget) end printed → (end ≡ WriteFault) ⊎ (end ≡ NoMemory)
    → (printed ≡ []) ⊎ ((P : Program) × (S : Recorded) × HasTexts files file derivation schedule P S × IsCutRun P S printed)

-- where `run` ends Rejected, the derivation was refused for its cause, whatever the schedule is
abbrev pub RunIsRefused : Type 0
RunIsRefused = (files : FilesSeen) (out : SinkSeen) (file derivation schedule : List ℕ) (budget number : ℕ) (why : Why) (printed : List ℕ) → LineEnds files out (Run file derivation schedule budget) (Rejected number why) printed
    → IsRefused files file derivation number why

-- a derivation's text that is told, within its limit, and rejected of the program of a text that is told, within its limit, is refused for
-- it before the schedule is read, but for a fault of reading or want of memory
abbrev pub RefusedIsNotRun : Type 0
RefusedIsNotRun = (files : FilesSeen) (out : SinkSeen) (file derivation schedule : List ℕ) (budget : ℕ) (printed text steps : List ℕ) (P : Program) (number : ℕ) (why : Why) (end : End) → HasText files which.Program file text → IsSource text P
    → HasText files which.Derivation derivation steps → IsRejected P steps number why → LineEnds files out (Run file derivation schedule budget) end printed → (end ≡ Rejected number why) ⊎ ((end ≡ ReadFault) ⊎ (end ≡ NoMemory))

-- The schedule was refused: the bytes that were read, which are the file's where these are told, break this rule first at this line.
pub record IsRefusedSchedule (files : FilesSeen) (file derivation schedule : List ℕ) (number : ℕ) (kind : ScheduleKind) : Type 0 where
  pub text : List ℕ
  pub steps : List ℕ
  pub lines : List ℕ
  pub program : Program
  pub text_is : Told (files.bytes file) text
  pub steps_is : Told (files.bytes derivation) steps
  pub lines_is : Told (files.bytes schedule) lines
  pub is_source : IsSource text program
  pub is_derivation : IsDerivationOf program steps
  pub is_fault : IsFault program lines number kind

-- where `run` ends Schedule, the schedule is refused for its first fault
abbrev pub ScheduleIsFaulty : Type 0
ScheduleIsFaulty = (files : FilesSeen) (out : SinkSeen) (file derivation schedule : List ℕ) (budget number : ℕ) (kind : ScheduleKind) (printed : List ℕ) → LineEnds files out (Run file derivation schedule budget) (Schedule number kind) printed
    → IsRefusedSchedule files file derivation schedule number kind

-- a schedule that is told, within its limit, and has a fault is refused for it, where the program and the derivation are told, within their
-- limits, and the derivation is one, but for a fault of reading or want of memory
abbrev pub FaultyIsSchedule : Type 0
FaultyIsSchedule = (files : FilesSeen) (out : SinkSeen) (file derivation schedule : List ℕ) (budget : ℕ) (printed text steps lines : List ℕ) (P : Program) (number : ℕ) (kind : ScheduleKind) (end : End) → HasText files which.Program file text → IsSource text P
    → HasText files which.Derivation derivation steps → IsDerivationOf P steps → HasText files which.Schedule schedule lines → IsFault P lines number kind → LineEnds files out (Run file derivation schedule budget) end printed
    → (end ≡ Schedule number kind) ⊎ ((end ≡ ReadFault) ⊎ (end ≡ NoMemory))

-- a text that is told is too long only where it has more bytes than its limit
abbrev pub TooLongForRunIsLonger : Type 0
TooLongForRunIsLonger = (files : FilesSeen) (out : SinkSeen) (file derivation schedule : List ℕ) (budget : ℕ) (printed : List ℕ)
    → (LineEnds files out (Run file derivation schedule budget) (TooLong which.Derivation) printed → IsLonger (files.bytes derivation) (limit_of which.Derivation))
    × (LineEnds files out (Run file derivation schedule budget) (TooLong which.Schedule) printed → IsLonger (files.bytes schedule) (limit_of which.Schedule))

-- a schedule that is told and has more bytes than its limit is too long, where the program and the derivation are told, within their limits,
-- and the derivation is one, but for a fault of reading or want of memory
abbrev pub LongScheduleIsTooLong : Type 0
LongScheduleIsTooLong = (files : FilesSeen) (out : SinkSeen) (file derivation schedule : List ℕ) (budget : ℕ) (printed text steps lines : List ℕ) (P : Program) (end : End) → HasText files which.Program file text → IsSource text P
    → HasText files which.Derivation derivation steps → IsDerivationOf P steps → files.bytes schedule ≡ Some lines → limit_of which.Schedule < length lines → LineEnds files out (Run file derivation schedule budget) end printed
    → (end ≡ TooLong which.Schedule) ⊎ ((end ≡ ReadFault) ⊎ (end ≡ NoMemory))

-- the first event that is not within the budget ends a run Spent, where the texts are told, within their limits, and are a program, a
-- derivation and a schedule, but for a fault of reading or of writing or want of memory
abbrev pub FirstIsSpent : Type 0
FirstIsSpent = (files : FilesSeen) (out : SinkSeen) (file derivation schedule : List ℕ) (budget event : ℕ) (printed before text steps lines : List ℕ) (P : Program) (S : Recorded) (end : End) → HasText files which.Program file text → IsSource text P
    → HasText files which.Derivation derivation steps → IsDerivationOf P steps → HasText files which.Schedule schedule lines → IsSchedule P lines S → IsSpentRun P S budget event before
    → LineEnds files out (Run file derivation schedule budget) end printed → (end ≡ Spent event) ⊎ ((end ≡ ReadFault) ⊎ ((end ≡ WriteFault) ⊎ (end ≡ NoMemory)))

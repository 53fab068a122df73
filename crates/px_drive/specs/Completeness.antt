-- Where a line does its work: what is enough for it to end Done.
use Rattle.std.specs.Prelude.{◌≡◌, ◌≤◌, ◌⊎◌, ℕ, List, length, Some, slice_get}
use Rattle.px_terms.specs.declared.term.Value.{Value}
use Rattle.px_terms.specs.declared.program.Program.{Program}
use Rattle.px_terms.specs.declared.program.ReplicaDef.{ReplicaDef}
use Rattle.px_schedule.specs.declared.schedule.Schedule.{Schedule}
use Rattle.px_schedule.specs.Schedules.{IsSchedule}
use Rattle.px_replicas.specs.Events.{Needs}
use Rattle.px_world.specs.Faults.{Rose}
use Rattle.px_drive.specs.declared.arguments.ClosedCall.{ClosedCall}
use Rattle.px_drive.specs.declared.outcome.CommandLine.{CommandLine}
use Rattle.px_drive.specs.declared.outcome.CommandLine.TheVariants.{Check, Replay, Eval, Run}
use Rattle.px_drive.specs.declared.outcome.Which.{Which}
use Rattle.px_drive.specs.declared.outcome.Which.TheVariants as which
use Rattle.px_drive.specs.declared.outcome.End.{End}
use Rattle.px_drive.specs.declared.outcome.End.TheVariants.{Done, NoMemory}
use Rattle.px_drive.specs.Lines.{line_of}
use Rattle.px_drive.specs.Seen.{FilesSeen, SinkSeen}
use Rattle.px_drive.specs.Ends.{limit_of}
use Rattle.px_drive.specs.Sources.{IsSource}
use Rattle.px_drive.specs.Derivations.{IsDerivationOf}
use Rattle.px_drive.specs.Arguments.{IsCall, IsValueOfCall}

-- no count of faults rose in the call
pub record NoneRose (files : FilesSeen) (out err : SinkSeen) : Type 0 where
  pub files_rest : ¬ Rose files.before files.after
  pub out_rests : ¬ Rose out.before out.after
  pub err_rests : ¬ Rose err.before err.after

-- the files tell a text of this name that is within its limit
pub record HasText (files : FilesSeen) (which : Which) (name text : List ℕ) : Type 0 where
  pub told : files.bytes name ≡ Some text
  pub fits : length text ≤ limit_of which

-- no event of the schedule needs more calls than the budget
abbrev pub NoneIsAbove : Program → Schedule → ℕ → Type 0
NoneIsAbove P S budget = (R : ReplicaDef) (place calls : ℕ) → slice_get P.replicas S.declaration ≡ Some R → Needs P R S.events place calls → calls ≤ budget

-- the line's texts are told and within their limits, and they ask for work that can be done: a row for each command
pub data CanBeDone (files : FilesSeen) : CommandLine → Type 0 where
  checked : {file : List ℕ} (text : List ℕ) (program : Program) → HasText files which.Program file text → IsSource text program → CanBeDone files (Check file)
  replayed : {file derivation : List ℕ} (text steps : List ℕ) (program : Program) → HasText files which.Program file text → HasText files which.Derivation derivation steps → IsSource text program → IsDerivationOf program steps → CanBeDone files (Replay file derivation)
  evaluated : {file name : List ℕ} {words : List (List ℕ)} {budget : ℕ} (text : List ℕ) (program : Program) (call : ClosedCall) (v : Value) (calls : ℕ) → HasText files which.Program file text → IsSource text program →
      IsCall program name words call → IsValueOfCall program call v calls → calls ≤ budget → CanBeDone files (Eval file name words budget)
  ran : {file derivation schedule : List ℕ} {budget : ℕ} (text steps lines : List ℕ) (program : Program) (S : Schedule) → HasText files which.Program file text → HasText files which.Derivation derivation steps →
      HasText files which.Schedule schedule lines → IsSource text program → IsDerivationOf program steps → IsSchedule program lines S → NoneIsAbove program S budget → CanBeDone files (Run file derivation schedule budget)

-- the work is done, but for want of memory
abbrev pub IsDone : End → Type 0
IsDone end = (end ≡ Done) ⊎ (end ≡ NoMemory)

-- where no count of faults rose, words that ask for work that can be done end Done, but for want of memory
abbrev pub IsComplete : List (List ℕ) → FilesSeen → SinkSeen → SinkSeen → End → Type 0
IsComplete words files out err end = (line : CommandLine) → line_of words ≡ Some line → CanBeDone files line → NoneRose files out err → IsDone end

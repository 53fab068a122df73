-- What the lines of `run` say: the replicas' held updates and the joins of these, so replicas that hold the same updates show the same
-- state.
use Rattle.std.specs.Prelude.{◌≡◌, ℕ, ◌⊎◌, List, [], ◌∷◌, ◌++◌, ⊤, codes, Option, None, Some, slice_get}
use Rattle.std.specs.List.{join_by, flat_map}
use Rattle.std.specs.Fmt.{decimal}
use Rattle.std.specs.Io.KnownBytes.{Appends}
use Rattle.px_terms.specs.declared.program.ReplicaDef.{ReplicaDef}
use Rattle.px_terms.specs.declared.program.Program.{Program}
use Rattle.px_schedule.specs.declared.schedule.Schedule.{Schedule}
use Rattle.px_schedule.specs.Schedules.{IsSchedule}
use Rattle.px_replicas.specs.Joins.{MergeJoins}
use Rattle.px_world.specs.Known.{Told}
use Rattle.px_drive.specs.declared.outcome.CommandLine.{CommandLine}
use Rattle.px_drive.specs.declared.outcome.CommandLine.TheVariants.{Check, Replay, Eval, Run}
use Rattle.px_drive.specs.declared.outcome.End.{End}
use Rattle.px_drive.specs.declared.outcome.End.TheVariants.{Done, Spent, WriteFault, NoMemory}
use Rattle.px_drive.specs.Seen.{SinkSeen}
use Rattle.px_drive.specs.Sources.{IsSource}
use Rattle.px_drive.specs.Derivations.{IsDerivationOf}
use Rattle.px_drive.specs.Recordings.{IsWholeRun, IsSpentRun, IsCutRun}

-- The texts that were read, which are the files' where these are told, are a program, a derivation of it and a schedule of one of its
-- replica declarations, whose merge is commutative, associative and idempotent; and these bytes were printed, of which a fact is true.
pub record HasRun (known : List ℕ → Option (List ℕ)) (file derivation schedule : List ℕ) (out : SinkSeen) (Is : Program → Schedule → List ℕ → Type 0) : Type 0 where
  pub text : List ℕ
  pub steps : List ℕ
  pub lines : List ℕ
  pub program : Program
  pub recorded : Schedule
  pub R : ReplicaDef
  pub printed : List ℕ
  pub text_is : Told (known file) text
  pub steps_is : Told (known derivation) steps
  pub lines_is : Told (known schedule) lines
  pub is_source : IsSource text program
  pub is_derivation : IsDerivationOf program steps
  pub is_schedule : IsSchedule program lines recorded
  pub declared : slice_get program.replicas recorded.declaration ≡ Some R
  pub joins : MergeJoins program R
  pub wrote : Appends out.old out.new printed
  pub is : Is program recorded printed

-- what `run` printed, by its end: where it is done the lines of all shows; after the event that is not within the budget those before it;
-- after a failed write, or without memory, a front of the lines of so many first events, or nothing; and nothing after any other end
abbrev pub RunPrints : (List ℕ → Option (List ℕ)) → List ℕ → List ℕ → List ℕ → ℕ → SinkSeen → End → Type 0
RunPrints known file derivation schedule budget out Done = HasRun known file derivation schedule out (λ P S printed. IsWholeRun P S budget printed)
RunPrints known file derivation schedule budget out (Spent event) = HasRun known file derivation schedule out (λ P S printed. IsSpentRun P S budget event printed)
RunPrints known file derivation schedule budget out WriteFault = Appends out.old out.new [] ⊎ HasRun known file derivation schedule out IsCutRun
RunPrints known file derivation schedule budget out NoMemory = Appends out.old out.new [] ⊎ HasRun known file derivation schedule out IsCutRun
RunPrints known file derivation schedule budget out _ = Appends out.old out.new []

-- what is said of a line of `run` alone
abbrev pub OfRun : (List ℕ → List ℕ → List ℕ → ℕ → Type 0) → Option CommandLine → Type 0
OfRun Is None = ⊤
OfRun Is (Some (Check file)) = ⊤
OfRun Is (Some (Replay file derivation)) = ⊤
OfRun Is (Some (Eval file name words budget)) = ⊤
OfRun Is (Some (Run file derivation schedule budget)) = Is file derivation schedule budget

-- the lines that a run printed are those of the definition
abbrev pub PrintsJoins : (List ℕ → Option (List ℕ)) → SinkSeen → Option CommandLine → End → Type 0
PrintsJoins known out line end = OfRun (λ file derivation schedule budget. RunPrints known file derivation schedule budget out end) line

-- A line that shows a replica: its number, the numbers of the updates that it holds, and the text of its state.
pub record ShowLine : Type 0 where
  pub replica : ℕ
  pub numbers : List ℕ
  pub state : List ℕ

-- the line, with its line feed
abbrev pub text_of : ShowLine → List ℕ
text_of line = decimal line.replica ++ (codes " [" ++ (join_by decimal (codes ",") line.numbers ++ (codes "] " ++ (line.state ++ 10 ∷ []))))

-- The bytes are lines that show replicas, and two of them with the same numbers have the same state.
pub record Agree (printed : List ℕ) : Type 0 where
  pub shown : List ShowLine
  pub is : printed ≡ flat_map text_of shown
  pub agree : (i j : ℕ) (one other : ShowLine) → slice_get shown i ≡ Some one → slice_get shown j ≡ Some other → one.numbers ≡ other.numbers → one.state ≡ other.state

-- what was printed are lines that agree
abbrev pub WritesAgreeing : SinkSeen → Type 0
WritesAgreeing out = (printed : List ℕ) × Appends out.old out.new printed × Agree printed

-- where a run is done, and after an event that is not within the budget, the lines that it printed agree: replicas that hold the same
-- updates show the same state
abbrev pub PrintsAgreeing : SinkSeen → Option CommandLine → End → Type 0
PrintsAgreeing out line Done = OfRun (λ file derivation schedule budget. WritesAgreeing out) line
PrintsAgreeing out line (Spent event) = OfRun (λ file derivation schedule budget. WritesAgreeing out) line
PrintsAgreeing out line _ = ⊤

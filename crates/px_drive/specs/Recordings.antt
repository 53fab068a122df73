-- The run of a schedule: what its events print, by how it ends. Events stand at places from 0.
use Rattle.std.specs.Prelude.{◌≡◌, ℕ, ◌+◌, ◌<◌, ◌≤◌, List, length, take, Some, slice_get}
use Rattle.px_terms.specs.declared.program.ReplicaDef.{ReplicaDef}
use Rattle.px_terms.specs.declared.program.Program.{Program}
use Rattle.px_schedule.specs.declared.schedule.Schedule.{Schedule}
use Rattle.px_replicas.specs.Events.{AreWithin, IsFirstAbove}
use Rattle.px_replicas.specs.Lines.{AreLines}

-- The schedule was run whole: each event is within the budget, and these bytes are the lines of its shows.
pub record IsWholeRun (P : Program) (S : Schedule) (budget : ℕ) (printed : List ℕ) : Type 0 where
  pub R : ReplicaDef
  pub declared : slice_get P.replicas S.declaration ≡ Some R
  pub within : AreWithin P R S.events budget (length S.events)
  pub lines : AreLines P R S.events (length S.events) printed

-- The schedule was run up to the event of this number, counted from 1, the first that is not within the budget, and these bytes are
-- the lines of the shows before it.
pub record IsSpentRun (P : Program) (S : Schedule) (budget number : ℕ) (printed : List ℕ) : Type 0 where
  pub R : ReplicaDef
  pub declared : slice_get P.replicas S.declaration ≡ Some R
  pub place : ℕ
  pub counted : number ≡ place + 1
  pub stands : place < length S.events
  pub first : IsFirstAbove P R S.events budget place
  pub lines : AreLines P R S.events place printed

-- The schedule was run in part: these bytes are a front of the lines of the shows among so many first events.
pub record IsCutRun (P : Program) (S : Schedule) (printed : List ℕ) : Type 0 where
  pub R : ReplicaDef
  pub declared : slice_get P.replicas S.declaration ≡ Some R
  pub place : ℕ
  pub stands : place ≤ length S.events
  pub lines : List ℕ
  pub are_lines : AreLines P R S.events place lines
  pub count : ℕ
  pub front : printed ≡ take count lines

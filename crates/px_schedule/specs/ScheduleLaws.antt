-- What the definitions of schedules say of every text.
use Rattle.std.specs.Prelude.{◌≡◌, ℕ, List}
use Rattle.px_base.specs.Lawful.{IsLawful}
use Rattle.px_terms.specs.declared.program.Program.{Program}
use Rattle.px_schedule.specs.declared.schedule.Schedule.{Schedule}
use Rattle.px_schedule.specs.declared.schedule_end.ScheduleKind.{ScheduleKind}
use Rattle.px_schedule.specs.Schedules.{IsSchedule, IsFault}

-- a text is at most one schedule
abbrev pub OneSchedule : Type 0
OneSchedule = (P : Program) (text : List ℕ) (s t : Schedule) → IsLawful P.names → IsSchedule P text s → IsSchedule P text t → s ≡ t

-- a text has at most one fault
abbrev pub OneFault : Type 0
OneFault = (P : Program) (text : List ℕ) (line other : ℕ) (kind why : ScheduleKind) → IsLawful P.names → IsFault P text line kind → IsFault P text other why → (line ≡ other) × (kind ≡ why)

-- no text that is a schedule has a fault
abbrev pub NeverBoth : Type 0
NeverBoth = (P : Program) (text : List ℕ) (s : Schedule) (line : ℕ) (kind : ScheduleKind) → IsLawful P.names → IsSchedule P text s → ¬ IsFault P text line kind

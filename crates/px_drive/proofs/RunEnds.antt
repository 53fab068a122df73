-- What `run` does after its program was read: how it ends, and what each end shows.
use Rattle.std.proofs.Common.{◌≡◌, ◌∙◌, ℕ, ◌<◌, ◌⊎◌, List, [], Err, inl, inr, sym, arith}
use Rattle.px_terms.specs.declared.program.Program.{Program}
use Rattle.px_replay.specs.declared.ends.Why.{Why}
use Rattle.px_schedule.specs.declared.schedule.Schedule.{Schedule as Recorded}
use Rattle.px_schedule.specs.declared.schedule_end.ScheduleKind.{ScheduleKind}
use Rattle.px_schedule.specs.Schedules.{IsSchedule, IsFault}
use Rattle.px_world.specs.Known.{Told}
use Rattle.px_world.specs.Faults.{Rose}
use Rattle.px_drive.specs.declared.outcome.Which.{Which}
use Rattle.px_drive.specs.declared.outcome.Which.TheVariants as which
use Rattle.px_drive.specs.declared.outcome.End.{End}
use Rattle.px_drive.specs.declared.outcome.End.TheVariants.{Done, Usage, Source, Rejected, Schedule, Spent, ReadFault, WriteFault, NoMemory, TooLong, Arguments}
use Rattle.px_drive.specs.Seen.{FilesSeen, SinkSeen}
use Rattle.px_drive.specs.Derivations.{IsDerivationOf, IsRejected}
use Rattle.px_drive.specs.Ends.{ReadsText, Accepts, Schedules, RunsEvents, AndThen}

-- what `run` does after its program was read
abbrev pub RunGoes : FilesSeen → SinkSeen → List ℕ → List ℕ → ℕ → Program → End → List ℕ → Type 0
RunGoes files out derivation schedule budget program =
    AndThen (ReadsText which.Derivation files derivation) (λ bytes.
    AndThen (Accepts program bytes) (λ n.
    AndThen (ReadsText which.Schedule files schedule) (λ lines.
    AndThen (Schedules program lines) (λ recorded.
    RunsEvents program recorded budget out))))

-- the ends that it has before its events, and what they show at once
abbrev pub IsEarly : FilesSeen → End → Type 0
IsEarly files Done = ⊥
IsEarly files Usage = ⊥
IsEarly files (Source fault) = ⊥
IsEarly files (Rejected number why) = Unit {0}
IsEarly files (Schedule number kind) = Unit {0}
IsEarly files (Spent event) = ⊥
IsEarly files ReadFault = Rose files.before files.after
IsEarly files WriteFault = ⊥
IsEarly files NoMemory = Unit {0}
IsEarly files (TooLong long) = ¬ (long ≡ which.Program)
IsEarly files (Arguments kind number) = ⊥

-- the ends that its events have, and what they show at once
abbrev pub IsLate : SinkSeen → End → Type 0
IsLate out Done = Unit {0}
IsLate out Usage = ⊥
IsLate out (Source fault) = ⊥
IsLate out (Rejected number why) = ⊥
IsLate out (Schedule number kind) = ⊥
IsLate out (Spent event) = 0 < event
IsLate out ReadFault = ⊥
IsLate out WriteFault = Rose out.before out.after
IsLate out NoMemory = Unit {0}
IsLate out (TooLong long) = ⊥
IsLate out (Arguments kind number) = ⊥

-- the ends that it has, and what they show at once
abbrev pub OwnRunEnd : FilesSeen → SinkSeen → End → Type 0
OwnRunEnd files out end = IsEarly files end ⊎ IsLate out end

read_ends : (text : Which) (files : FilesSeen) (name : List ℕ) (end : End) → ¬ (text ≡ which.Program) → ReadsText text files name (Err end) → IsEarly files end
read_ends text files name (TooLong long) other h = λ is. other (sym h.0 ∙ is)
read_ends text files name ReadFault other h = h.0
read_ends text files name NoMemory other h = tt
read_ends text files name Done other h = h
read_ends text files name Usage other h = h
read_ends text files name (Source fault) other h = h
read_ends text files name (Rejected number why) other h = tt
read_ends text files name (Schedule number kind) other h = tt
read_ends text files name (Spent event) other h = h
read_ends text files name WriteFault other h = h
read_ends text files name (Arguments kind number) other h = h

accept_ends : (files : FilesSeen) (program : Program) (bytes : List ℕ) (end : End) → Accepts program bytes (Err end) → IsEarly files end
accept_ends files program bytes (Rejected number why) h = tt
accept_ends files program bytes NoMemory h = tt
accept_ends files program bytes Done h = h
accept_ends files program bytes Usage h = h
accept_ends files program bytes (Source fault) h = h
accept_ends files program bytes (Schedule number kind) h = tt
accept_ends files program bytes (Spent event) h = h
accept_ends files program bytes ReadFault h = absurd h
accept_ends files program bytes WriteFault h = h
accept_ends files program bytes (TooLong long) h = absurd h
accept_ends files program bytes (Arguments kind number) h = h

schedule_ends : (files : FilesSeen) (program : Program) (bytes : List ℕ) (end : End) → Schedules program bytes (Err end) → IsEarly files end
schedule_ends files program bytes (Schedule number kind) h = tt
schedule_ends files program bytes NoMemory h = tt
schedule_ends files program bytes Done h = h
schedule_ends files program bytes Usage h = h
schedule_ends files program bytes (Source fault) h = h
schedule_ends files program bytes (Rejected number why) h = tt
schedule_ends files program bytes (Spent event) h = h
schedule_ends files program bytes ReadFault h = absurd h
schedule_ends files program bytes WriteFault h = h
schedule_ends files program bytes (TooLong long) h = absurd h
schedule_ends files program bytes (Arguments kind number) h = h

-- events have their own ends alone
pub events_ends : (program : Program) (recorded : Recorded) (budget : ℕ) (out : SinkSeen) (end : End) (printed : List ℕ) → RunsEvents program recorded budget out end printed → IsLate out end
events_ends program recorded budget out Done printed h = tt
events_ends program recorded budget out (Spent event) printed h = let counted = h.counted in omega (arith, counted)
events_ends program recorded budget out WriteFault printed h = h.0
events_ends program recorded budget out NoMemory printed h = tt
events_ends program recorded budget out Usage printed h = h
events_ends program recorded budget out (Source fault) printed h = h
events_ends program recorded budget out (Rejected number why) printed h = h
events_ends program recorded budget out (Schedule number kind) printed h = h
events_ends program recorded budget out ReadFault printed h = h
events_ends program recorded budget out (TooLong long) printed h = h
events_ends program recorded budget out (Arguments kind number) printed h = h

-- The derivation and the schedule were read, which are the files' where these are told: a derivation of the program and a schedule.
pub record HasRead (files : FilesSeen) (derivation schedule : List ℕ) (P : Program) (S : Recorded) : Type 0 where
  pub steps : List ℕ
  pub lines : List ℕ
  pub steps_is : Told (files.bytes derivation) steps
  pub lines_is : Told (files.bytes schedule) lines
  pub is_derivation : IsDerivationOf P steps
  pub is_schedule : IsSchedule P lines S

-- The events were run.
pub record RanEvents (files : FilesSeen) (out : SinkSeen) (derivation schedule : List ℕ) (budget : ℕ) (P : Program) (end : End) (printed : List ℕ) : Type 0 where
  pub recorded : Recorded
  pub read : HasRead files derivation schedule P recorded
  pub runs : RunsEvents P recorded budget out end printed

-- it ends before its events, and printed nothing; or it runs them
abbrev pub Parts : FilesSeen → SinkSeen → List ℕ → List ℕ → ℕ → Program → End → List ℕ → Type 0
Parts files out derivation schedule budget P end printed = (IsEarly files end × (printed ≡ [])) ⊎ RanEvents files out derivation schedule budget P end printed

no_program : ¬ (which.Derivation ≡ which.Program)
no_program is = cc

no_program_either : ¬ (which.Schedule ≡ which.Program)
no_program_either is = cc

pub parts : (files : FilesSeen) (out : SinkSeen) (derivation schedule : List ℕ) (budget : ℕ) (P : Program) (end : End) (printed : List ℕ) → RunGoes files out derivation schedule budget P end printed → Parts files out derivation schedule budget P end printed
parts files out derivation schedule budget P end printed (inl (h, none)) = inl (read_ends which.Derivation files derivation end no_program h, none)
parts files out derivation schedule budget P end printed (inr (bytes, _, inl (h, none))) = inl (accept_ends files P bytes end h, none)
parts files out derivation schedule budget P end printed (inr (bytes, _, inr (n, _, inl (h, none)))) = inl (read_ends which.Schedule files schedule end no_program_either h, none)
parts files out derivation schedule budget P end printed (inr (bytes, _, inr (n, _, inr (lines, _, inl (h, none))))) = inl (schedule_ends files P lines end h, none)
parts files out derivation schedule budget P end printed (inr (bytes, read, inr (n, (derived, count), inr (lines, lines_read, inr (recorded, is, runs))))) = inr (record {
  recorded = recorded;
  read = record { steps = bytes; lines = lines; steps_is = read.0; lines_is = lines_read.0; is_derivation = derived; is_schedule = is };
  runs = runs;
})

-- after its program was read `run` has its own ends alone
pub own_run_end : (files : FilesSeen) (out : SinkSeen) (derivation schedule : List ℕ) (budget : ℕ) (P : Program) (end : End) (printed : List ℕ) → RunGoes files out derivation schedule budget P end printed → OwnRunEnd files out end
own_run_end files out derivation schedule budget P end printed goes = by_parts (parts files out derivation schedule budget P end printed goes)
  where
    by_parts : Parts files out derivation schedule budget P end printed → OwnRunEnd files out end
    by_parts (inl early) = inl early.0
    by_parts (inr ran) = inr (events_ends P ran.recorded budget out end printed ran.runs)

-- The derivation was read, and is rejected there.
pub record RejectedThere (files : FilesSeen) (derivation : List ℕ) (P : Program) (number : ℕ) (why : Why) : Type 0 where
  pub steps : List ℕ
  pub steps_is : Told (files.bytes derivation) steps
  pub rejected : IsRejected P steps number why

pub rejected_there : (files : FilesSeen) (out : SinkSeen) (derivation schedule : List ℕ) (budget : ℕ) (P : Program) (number : ℕ) (why : Why) (printed : List ℕ) → RunGoes files out derivation schedule budget P (Rejected number why) printed
    → RejectedThere files derivation P number why
rejected_there files out derivation schedule budget P number why printed (inl (h, _)) = absurd h
rejected_there files out derivation schedule budget P number why printed (inr (bytes, read, inl (h, _))) = record { steps = bytes; steps_is = read.0; rejected = h }
rejected_there files out derivation schedule budget P number why printed (inr (bytes, _, inr (n, _, inl (h, _)))) = absurd h
rejected_there files out derivation schedule budget P number why printed (inr (bytes, _, inr (n, _, inr (lines, _, inl (h, _))))) = absurd h
rejected_there files out derivation schedule budget P number why printed (inr (bytes, _, inr (n, _, inr (lines, _, inr (recorded, _, h))))) = absurd h

-- The schedule was read, and breaks a rule there.
pub record BrokenThere (files : FilesSeen) (derivation schedule : List ℕ) (P : Program) (number : ℕ) (kind : ScheduleKind) : Type 0 where
  pub steps : List ℕ
  pub lines : List ℕ
  pub steps_is : Told (files.bytes derivation) steps
  pub lines_is : Told (files.bytes schedule) lines
  pub is_derivation : IsDerivationOf P steps
  pub is_fault : IsFault P lines number kind

pub broken_there : (files : FilesSeen) (out : SinkSeen) (derivation schedule : List ℕ) (budget : ℕ) (P : Program) (number : ℕ) (kind : ScheduleKind) (printed : List ℕ) → RunGoes files out derivation schedule budget P (Schedule number kind) printed
    → BrokenThere files derivation schedule P number kind
broken_there files out derivation schedule budget P number kind printed (inl (h, _)) = absurd h
broken_there files out derivation schedule budget P number kind printed (inr (bytes, _, inl (h, _))) = absurd h
broken_there files out derivation schedule budget P number kind printed (inr (bytes, _, inr (n, _, inl (h, _)))) = absurd h
broken_there files out derivation schedule budget P number kind printed (inr (bytes, read, inr (n, (derived, _), inr (lines, lines_read, inl (h, _))))) =
    record { steps = bytes; lines = lines; steps_is = read.0; lines_is = lines_read.0; is_derivation = derived; is_fault = h }
broken_there files out derivation schedule budget P number kind printed (inr (bytes, _, inr (n, _, inr (lines, _, inr (recorded, _, h))))) = absurd h

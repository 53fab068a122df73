-- How `run` ends on told texts within their limits: a program, a derivation that is rejected or one of it, a schedule with a fault or a whole
-- one, and events that are within the budget or not.
use Rattle.std.proofs.Common.{◌≡◌, ◌∙◌, ℕ, ◌<◌, ◌≤◌, ◌⊎◌, List, Some, Ok, Err, slice_get, inl, inr, refl, sym, ap, subst, arith}
use Rattle.std.proofs.lemmas.Bool.{cases_order}
use Rattle.px_terms.specs.declared.program.ReplicaDef.{ReplicaDef}
use Rattle.px_terms.specs.declared.program.Program.{Program}
use Rattle.px_schedule.specs.declared.schedule.Schedule.{Schedule as Recorded}
use Rattle.px_schedule.specs.declared.schedule_end.ScheduleKind.{ScheduleKind}
use Rattle.px_schedule.specs.Schedules.{IsSchedule, IsFault}
use Rattle.px_schedule.specs.ScheduleLaws.{OneSchedule, OneFault}
use Rattle.px_schedule.specs.ScheduleLaws as schedule_laws
use Rattle.px_replicas.specs.Events.{IsWithin, IsAbove}
use Rattle.px_replicas.specs.Laws.{OneNeed}
use Rattle.px_world.specs.Faults.{Rose}
use Rattle.px_drive.specs.declared.outcome.CommandLine.TheVariants.{Run}
use Rattle.px_drive.specs.declared.outcome.Which.TheVariants as which
use Rattle.px_drive.specs.declared.outcome.End.{End}
use Rattle.px_drive.specs.declared.outcome.End.TheVariants.{Done, Usage, Source, Rejected, Schedule, Spent, ReadFault, WriteFault, NoMemory, TooLong, Arguments}
use Rattle.px_drive.specs.Seen.{FilesSeen, SinkSeen}
use Rattle.px_drive.specs.Sources.{IsSource}
use Rattle.px_drive.specs.Derivations.{IsDerivationOf, IsRejected}
use Rattle.px_drive.specs.Recordings.{IsSpentRun}
use Rattle.px_drive.specs.Ends.{limit_of, ReadsText, Accepts, Schedules, RunsEvents, AndThen}
use Rattle.px_drive.specs.Completeness.{HasText, NoneIsAbove, IsDone}
use Rattle.px_drive.specs.Laws.{OneSource, NeverBoth, NeverRejected, OneRejection, SourceIsChecked}
use Rattle.px_drive.specs.RunLaws.{RefusedIsNotRun, FaultyIsSchedule, LongScheduleIsTooLong, FirstIsSpent}
use Rattle.px_drive.proofs.Causes.{Goes, told_is, not_whole}
use Rattle.px_drive.proofs.TextEnds.{IsChance, unread_ends, program_read}
use Rattle.px_drive.proofs.ReplayEnds.{accepts_ends, long_ends}
use Rattle.px_drive.proofs.RunEnds.{RunGoes}

-- a derivation is refused only for want of memory
accepted_ends : NeverRejected → (P : Program) (bytes : List ℕ) (end : End) → IsDerivationOf P bytes → Accepts P bytes (Err end) → IsChance end
accepted_ends never P bytes (Rejected number why) derived h = absurd (never P bytes number why derived h)
accepted_ends never P bytes NoMemory derived h = inr refl
accepted_ends never P bytes Done derived h = absurd h
accepted_ends never P bytes Usage derived h = absurd h
accepted_ends never P bytes (Source fault) derived h = absurd h
accepted_ends never P bytes (Schedule number kind) derived h = absurd h
accepted_ends never P bytes (Spent event) derived h = absurd h
accepted_ends never P bytes ReadFault derived h = absurd h
accepted_ends never P bytes WriteFault derived h = absurd h
accepted_ends never P bytes (TooLong long) derived h = absurd h
accepted_ends never P bytes (Arguments kind number) derived h = absurd h

-- What is known of schedules' texts.
pub record SchedulesAreCertain : Type 0 where
  pub checked : SourceIsChecked
  pub one : OneSchedule
  pub never : schedule_laws.NeverBoth

module _ (source : List ℕ) (P : Program) (is : IsSource source P) where
  -- a schedule is refused only for want of memory
  scheduled_ends : SchedulesAreCertain → (lines : List ℕ) (S : Recorded) (end : End) → IsSchedule P lines S → Schedules P lines (Err end) → IsChance end
  scheduled_ends laws lines S (Schedule number kind) whole h = absurd (laws.never P lines S number kind (laws.checked source P is).lawful whole h)
  scheduled_ends laws lines S NoMemory whole h = inr refl
  scheduled_ends laws lines S Done whole h = absurd h
  scheduled_ends laws lines S Usage whole h = absurd h
  scheduled_ends laws lines S (Source fault) whole h = absurd h
  scheduled_ends laws lines S (Rejected number why) whole h = absurd h
  scheduled_ends laws lines S (Spent event) whole h = absurd h
  scheduled_ends laws lines S ReadFault whole h = absurd h
  scheduled_ends laws lines S WriteFault whole h = absurd h
  scheduled_ends laws lines S (TooLong long) whole h = absurd h
  scheduled_ends laws lines S (Arguments kind number) whole h = absurd h

  -- a schedule with a fault is refused for it, but for want of memory
  broken_ends : SourceIsChecked → OneFault → (lines : List ℕ) (number : ℕ) (kind : ScheduleKind) (end : End) → IsFault P lines number kind → Schedules P lines (Err end) → (end ≡ Schedule number kind) ⊎ IsChance end
  broken_ends checked one lines number kind (Schedule other rule) fault h =
      let same : (other ≡ number) × (rule ≡ kind) = one P lines other number rule kind (checked source P is).lawful h fault in
      inl (ap (λ (n : ℕ). Schedule n rule) same.0 ∙ ap (λ (k : ScheduleKind). Schedule number k) same.1)
  broken_ends checked one lines number kind NoMemory fault h = inr (inr refl)
  broken_ends checked one lines number kind Done fault h = absurd h
  broken_ends checked one lines number kind Usage fault h = absurd h
  broken_ends checked one lines number kind (Source other) fault h = absurd h
  broken_ends checked one lines number kind (Rejected line why) fault h = absurd h
  broken_ends checked one lines number kind (Spent event) fault h = absurd h
  broken_ends checked one lines number kind ReadFault fault h = absurd h
  broken_ends checked one lines number kind WriteFault fault h = absurd h
  broken_ends checked one lines number kind (TooLong long) fault h = absurd h
  broken_ends checked one lines number kind (Arguments cause word) fault h = absurd h

-- what `run` does after its derivation was accepted
abbrev pub Scheduling : FilesSeen → SinkSeen → List ℕ → ℕ → Program → End → List ℕ → Type 0
Scheduling files out schedule budget P = AndThen (ReadsText which.Schedule files schedule) (λ lines. AndThen (Schedules P lines) (λ recorded. RunsEvents P recorded budget out))

-- a told derivation of the program is read and accepted
past_derivation : NeverRejected → (files : FilesSeen) (out : SinkSeen) (derivation schedule : List ℕ) (budget : ℕ) (P : Program) (steps : List ℕ) (end : End) (printed : List ℕ) → HasText files which.Derivation derivation steps → IsDerivationOf P steps
    → RunGoes files out derivation schedule budget P end printed → IsChance end ⊎ Scheduling files out schedule budget P end printed
past_derivation never files out derivation schedule budget P steps end printed has derived (inl (reads, _)) = inl (unread_ends which.Derivation files derivation steps end has reads)
past_derivation never files out derivation schedule budget P steps end printed has derived (inr (bytes, reads, inl (refuses, _))) =
    inl (accepted_ends never P bytes end (subst (IsDerivationOf P) (sym (told_is (files.bytes derivation) steps bytes has.told reads.0)) derived) refuses)
past_derivation never files out derivation schedule budget P steps end printed has derived (inr (bytes, _, inr (n, _, rest))) = inr rest

-- a told schedule is read, and its events are run
past_schedule : SchedulesAreCertain → (files : FilesSeen) (out : SinkSeen) (schedule : List ℕ) (budget : ℕ) (source : List ℕ) (P : Program) (lines : List ℕ) (S : Recorded) (end : End) (printed : List ℕ) → IsSource source P
    → HasText files which.Schedule schedule lines → IsSchedule P lines S → Scheduling files out schedule budget P end printed → IsChance end ⊎ RunsEvents P S budget out end printed
past_schedule laws files out schedule budget source P lines S end printed is has whole (inl (reads, _)) = inl (unread_ends which.Schedule files schedule lines end has reads)
past_schedule laws files out schedule budget source P lines S end printed is has whole (inr (read, reads, rest)) = there rest
  where
    here : IsSchedule P read S
    here = subst (λ (bytes : List ℕ). IsSchedule P bytes S) (sym (told_is (files.bytes schedule) lines read has.told reads.0)) whole

    there : AndThen (Schedules P read) (λ recorded. RunsEvents P recorded budget out) end printed → IsChance end ⊎ RunsEvents P S budget out end printed
    there (inl (refuses, _)) = inl (scheduled_ends source P is laws read S end here refuses)
    there (inr (recorded, found, runs)) =
        inr (subst (λ (T : Recorded). RunsEvents P T budget out end printed) (laws.one P read recorded S (laws.checked source P is).lawful found here) runs)

-- What is known of the texts of a run.
pub record RunsAreCertain : Type 0 where
  pub one_source : OneSource
  pub never_both : NeverBoth
  pub never_rejected : NeverRejected
  pub schedules : SchedulesAreCertain

-- told texts that are a program, a derivation of it and a schedule lead to its events
pub reaches : RunsAreCertain → (files : FilesSeen) (out : SinkSeen) (file derivation schedule : List ℕ) (budget : ℕ) (text steps lines : List ℕ) (P : Program) (S : Recorded) (end : End) (printed : List ℕ) → HasText files which.Derivation derivation steps
    → HasText files which.Schedule schedule lines → IsSource text P → IsDerivationOf P steps → IsSchedule P lines S → IsChance end ⊎ Goes files out (Run file derivation schedule budget) P end printed → IsChance end ⊎ RunsEvents P S budget out end printed
reaches laws files out file derivation schedule budget text steps lines P S end printed has_steps has_lines source derived whole (inl chance) = inl chance
reaches laws files out file derivation schedule budget text steps lines P S end printed has_steps has_lines source derived whole (inr goes) =
    by_derivation (past_derivation laws.never_rejected files out derivation schedule budget P steps end printed has_steps derived goes)
  where
    by_derivation : IsChance end ⊎ Scheduling files out schedule budget P end printed → IsChance end ⊎ RunsEvents P S budget out end printed
    by_derivation (inl chance) = inl chance
    by_derivation (inr scheduling) = past_schedule laws.schedules files out schedule budget text P lines S end printed source has_lines whole scheduling

pub refused_is_not_run_law : OneSource → NeverBoth → NeverRejected → OneRejection → RefusedIsNotRun
refused_is_not_run_law one_source never_both never one files out file derivation schedule budget printed text steps P number why end has source has_steps rejected ends =
    either (program_read one_source never_both files out (Run file derivation schedule budget) printed text P end has source ends)
  where
    told : (bytes : List ℕ) → ReadsText which.Derivation files derivation (Ok bytes) → IsRejected P bytes number why
    told bytes reads = subst (λ (bytes : List ℕ). IsRejected P bytes number why) (sym (told_is (files.bytes derivation) steps bytes has_steps.told reads.0)) rejected

    either : IsChance end ⊎ Goes files out (Run file derivation schedule budget) P end printed → (end ≡ Rejected number why) ⊎ IsChance end
    either (inl chance) = inr chance
    either (inr (inl (reads, _))) = inr (unread_ends which.Derivation files derivation steps end has_steps reads)
    either (inr (inr (bytes, reads, inl (refuses, _)))) = accepts_ends one text P source bytes number why end (told bytes reads) refuses
    either (inr (inr (bytes, reads, inr (n, (derived, _), _)))) = absurd (never P bytes number why derived (told bytes reads))

pub faulty_is_schedule_law : OneSource → NeverBoth → NeverRejected → SourceIsChecked → OneFault → schedule_laws.NeverBoth → FaultyIsSchedule
faulty_is_schedule_law one_source never_both never checked one_fault neither files out file derivation schedule budget printed text steps lines P number kind end has source has_steps derived has_lines fault ends =
    either (program_read one_source never_both files out (Run file derivation schedule budget) printed text P end has source ends)
  where
    told : (bytes : List ℕ) → ReadsText which.Schedule files schedule (Ok bytes) → IsFault P bytes number kind
    told bytes reads = subst (λ (bytes : List ℕ). IsFault P bytes number kind) (sym (told_is (files.bytes schedule) lines bytes has_lines.told reads.0)) fault

    by_schedule : IsChance end ⊎ Scheduling files out schedule budget P end printed → (end ≡ Schedule number kind) ⊎ IsChance end
    by_schedule (inl chance) = inr chance
    by_schedule (inr (inl (reads, _))) = inr (unread_ends which.Schedule files schedule lines end has_lines reads)
    by_schedule (inr (inr (bytes, reads, inl (refuses, _)))) = broken_ends text P source checked one_fault bytes number kind end (told bytes reads) refuses
    by_schedule (inr (inr (bytes, reads, inr (recorded, whole, _)))) = absurd (neither P bytes recorded number kind (checked text P source).lawful whole (told bytes reads))

    either : IsChance end ⊎ Goes files out (Run file derivation schedule budget) P end printed → (end ≡ Schedule number kind) ⊎ IsChance end
    either (inl chance) = inr chance
    either (inr goes) = by_schedule (past_derivation never files out derivation schedule budget P steps end printed has_steps derived goes)

pub long_schedule_is_too_long_law : OneSource → NeverBoth → NeverRejected → LongScheduleIsTooLong
long_schedule_is_too_long_law one_source never_both never files out file derivation schedule budget printed text steps lines P end has source has_steps derived known above ends =
    either (program_read one_source never_both files out (Run file derivation schedule budget) printed text P end has source ends)
  where
    by_schedule : IsChance end ⊎ Scheduling files out schedule budget P end printed → (end ≡ TooLong which.Schedule) ⊎ IsChance end
    by_schedule (inl chance) = inr chance
    by_schedule (inr (inl (reads, _))) = long_ends which.Schedule files schedule end reads
    by_schedule (inr (inr (read, reads, _))) = absurd (not_whole (files.bytes schedule) lines read (limit_of which.Schedule) known above reads.0 reads.1)

    either : IsChance end ⊎ Goes files out (Run file derivation schedule budget) P end printed → (end ≡ TooLong which.Schedule) ⊎ IsChance end
    either (inl chance) = inr chance
    either (inr goes) = by_schedule (past_derivation never files out derivation schedule budget P steps end printed has_steps derived goes)

-- one declaration stands at a number
pub one_declaration : (P : Program) (number : ℕ) (R T : ReplicaDef) → slice_get P.replicas number ≡ Some R → slice_get P.replicas number ≡ Some T → R ≡ T
one_declaration P number R T one other = let both : Some R ≡ Some T = sym one ∙ other in cc

-- an event is not within the budget and above it
not_both : OneNeed → (P : Program) (S : Recorded) (R T : ReplicaDef) (budget place : ℕ) → slice_get P.replicas S.declaration ≡ Some R → slice_get P.replicas S.declaration ≡ Some T
    → IsWithin P R S.events budget place → IsAbove P T S.events budget place → ⊥
not_both one P S R T budget place declared also within above =
    let here : IsAbove P R S.events budget place = subst (λ (U : ReplicaDef). IsAbove P U S.events budget place) (one_declaration P S.declaration T R also declared) above in
    let calls : within.calls ≡ here.calls = one P R S.events place within.calls here.calls within.needs here.needs in
    let low : within.calls ≤ budget = within.within in
    let high : budget < here.calls = here.above in
    omega (arith, calls, low, high)

-- two runs that are spent are spent at one event
one_spent : OneNeed → (P : Program) (S : Recorded) (budget one other : ℕ) (first second : List ℕ) → IsSpentRun P S budget one first → IsSpentRun P S budget other second → one ≡ other
one_spent need P S budget one other first second a b = by_place (cases_order a.place b.place)
  where
    by_place : (a.place ≡ b.place) ⊎ ((a.place < b.place) ⊎ (b.place < a.place)) → one ≡ other
    by_place (inl same) = let counted = a.counted in let also = b.counted in omega (arith, same, counted, also)
    by_place (inr (inl before)) = absurd (not_both need P S b.R a.R budget a.place b.declared a.declared (b.first.before a.place before) a.first.above)
    by_place (inr (inr behind)) = absurd (not_both need P S a.R b.R budget b.place a.declared b.declared (a.first.before b.place behind) b.first.above)

-- the event that is above the budget ends the run
spent_ends : OneNeed → (P : Program) (S : Recorded) (budget event : ℕ) (before : List ℕ) (out : SinkSeen) (end : End) (printed : List ℕ) → IsSpentRun P S budget event before → RunsEvents P S budget out end printed
    → (end ≡ Spent event) ⊎ ((end ≡ ReadFault) ⊎ ((end ≡ WriteFault) ⊎ (end ≡ NoMemory)))
spent_ends need P S budget event before out Done printed spent whole = absurd (not_both need P S whole.R spent.R budget spent.place whole.declared spent.declared (whole.within spent.place spent.stands) spent.first.above)
spent_ends need P S budget event before out (Spent other) printed spent h = inl (ap Spent (one_spent need P S budget other event printed before h spent))
spent_ends need P S budget event before out WriteFault printed spent h = inr (inr (inl refl))
spent_ends need P S budget event before out NoMemory printed spent h = inr (inr (inr refl))
spent_ends need P S budget event before out Usage printed spent h = absurd h
spent_ends need P S budget event before out (Source fault) printed spent h = absurd h
spent_ends need P S budget event before out (Rejected number why) printed spent h = absurd h
spent_ends need P S budget event before out (Schedule number kind) printed spent h = absurd h
spent_ends need P S budget event before out ReadFault printed spent h = absurd h
spent_ends need P S budget event before out (TooLong long) printed spent h = absurd h
spent_ends need P S budget event before out (Arguments kind number) printed spent h = absurd h

pub first_is_spent_law : RunsAreCertain → OneNeed → FirstIsSpent
first_is_spent_law laws need files out file derivation schedule budget event printed before text steps lines P S end has source has_steps derived has_lines whole spent ends =
    either (reaches laws files out file derivation schedule budget text steps lines P S end printed has_steps has_lines source derived whole
    (program_read laws.one_source laws.never_both files out (Run file derivation schedule budget) printed text P end has source ends))
  where
    either : IsChance end ⊎ RunsEvents P S budget out end printed → (end ≡ Spent event) ⊎ ((end ≡ ReadFault) ⊎ ((end ≡ WriteFault) ⊎ (end ≡ NoMemory)))
    either (inl (inl is)) = inr (inl is)
    either (inl (inr is)) = inr (inr (inr is))
    either (inr runs) = spent_ends need P S budget event before out end printed spent runs

-- where no event is above the budget and no count rose, the run is done, but for want of memory
pub events_done : (P : Program) (S : Recorded) (budget : ℕ) (out : SinkSeen) (end : End) (printed : List ℕ) → ¬ Rose out.before out.after → NoneIsAbove P S budget → RunsEvents P S budget out end printed → IsDone end
events_done P S budget out Done printed calm low h = inl refl
events_done P S budget out (Spent event) printed calm low h =
    let most : h.first.above.calls ≤ budget = low h.R h.place h.first.above.calls h.declared h.first.above.needs in
    let over : budget < h.first.above.calls = h.first.above.above in
    absurd (let wrong : ⊥ = omega (arith, most, over) in wrong)
events_done P S budget out WriteFault printed calm low h = absurd (calm h.0)
events_done P S budget out NoMemory printed calm low h = inr refl
events_done P S budget out Usage printed calm low h = absurd h
events_done P S budget out (Source fault) printed calm low h = absurd h
events_done P S budget out (Rejected number why) printed calm low h = absurd h
events_done P S budget out (Schedule number kind) printed calm low h = absurd h
events_done P S budget out ReadFault printed calm low h = absurd h
events_done P S budget out (TooLong long) printed calm low h = absurd h
events_done P S budget out (Arguments kind number) printed calm low h = absurd h

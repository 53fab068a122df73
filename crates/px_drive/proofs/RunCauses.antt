-- The laws of how `run` ends: what each end shows.
use Rattle.std.proofs.Common.{◌≡◌, ◌∙◌, ℕ, ◌⊎◌, List, [], map, Err, slice_get, inl, inr, sym, ap, subst}
use Rattle.std.proofs.lemmas.List.Folds.{flat_map-map}
use Rattle.std.proofs.lemmas.Option.{slice_get-map}
use Rattle.px_base.specs.declared.names.Names.{Names}
use Rattle.px_terms.specs.declared.program.Program.{Program}
use Rattle.px_machine.specs.ValueText.{value_text}
use Rattle.px_machine.proofs.RunLemmas.{some_of_map}
use Rattle.px_schedule.specs.declared.schedule.Schedule.{Schedule as Recorded}
use Rattle.px_replicas.specs.declared.shown.Shown.{Shown}
use Rattle.px_replicas.specs.Laws.{DeclaredMergesJoin, OneOutput}
use Rattle.px_drive.specs.declared.outcome.CommandLine.TheVariants.{Run}
use Rattle.px_world.specs.Known.{IsLonger}
use Rattle.px_drive.specs.declared.outcome.Which.{Which}
use Rattle.px_drive.specs.declared.outcome.Which.TheVariants as which
use Rattle.px_drive.specs.declared.outcome.End.{End}
use Rattle.px_drive.specs.declared.outcome.End.TheVariants.{Done, Usage, Source, Rejected, Schedule, Spent, ReadFault, WriteFault, NoMemory, TooLong, Arguments}
use Rattle.px_drive.specs.Seen.{FilesSeen, SinkSeen}
use Rattle.px_drive.specs.Ends.{limit_of, ReadsText, RunsEvents, LineEnds}
use Rattle.px_drive.specs.Sources.{Sources}
use Rattle.px_drive.specs.Recordings.{IsWholeRun, IsSpentRun, IsCutRun}
use Rattle.px_drive.specs.RunHeadline.{ShowLine, text_of}
use Rattle.px_drive.specs.Laws.{NeverRejected, AcceptedIsTrue, SourceIsChecked}
use Rattle.px_drive.specs.RunLaws.{MergesJoin, LinesAgree, HasTexts, DoneIsRun, SpentIsFirst, CutIsRun, RunIsRefused, ScheduleIsFaulty, TooLongForRunIsLonger}
use Rattle.px_drive.proofs.Causes.{longer}
use Rattle.px_drive.proofs.RunEnds.{IsEarly, Parts, parts, RejectedThere, rejected_there, BrokenThere, broken_there}

pub merges_join_law : AcceptedIsTrue → SourceIsChecked → DeclaredMergesJoin → MergesJoin
merges_join_law accepted checked declared text steps P number R source derived at = declared P R number (checked text P source) (accepted text steps P source derived).0 at

-- what a show prints, without its program
abbrev bare : Names → Shown → ShowLine
bare names s = record { replica = s.replica; numbers = s.numbers; state = value_text names s.value }

pub lines_agree_law : OneOutput → LinesAgree
lines_agree_law one P R S place printed are = record {
  shown = map (bare P.names) are.all;
  is = are.whole ∙ sym (flat_map-map text_of (bare P.names) are.all);
  agree = λ i j first other at there same.
      let here = some_of_map (bare P.names) (slice_get are.all i) first (sym (slice_get-map (bare P.names) are.all i) ∙ at) in
      let beside = some_of_map (bare P.names) (slice_get are.all j) other (sym (slice_get-map (bare P.names) are.all j) ∙ there) in
      let numbers : here.0.numbers ≡ beside.0.numbers = ap (λ (l : ShowLine). l.numbers) here.2 ∙ (same ∙ sym (ap (λ (l : ShowLine). l.numbers) beside.2)) in
      let values = one.same_numbers P R S.events place are.all are.shown i j here.0 beside.0 here.1 beside.1 numbers in
      sym (ap (λ (l : ShowLine). l.state) here.2) ∙ (ap (value_text P.names) values ∙ ap (λ (l : ShowLine). l.state) beside.2);
}

-- an end that may come before the events of a run
abbrev pub ComesBefore : End → Type 0
ComesBefore Done = ⊥
ComesBefore Usage = Unit {0}
ComesBefore (Source fault) = Unit {0}
ComesBefore (Rejected number why) = Unit {0}
ComesBefore (Schedule number kind) = Unit {0}
ComesBefore (Spent event) = ⊥
ComesBefore ReadFault = Unit {0}
ComesBefore WriteFault = ⊥
ComesBefore NoMemory = Unit {0}
ComesBefore (TooLong long) = Unit {0}
ComesBefore (Arguments kind number) = Unit {0}

unread_before : (text : Which) (files : FilesSeen) (name : List ℕ) (end : End) → ReadsText text files name (Err end) → ComesBefore end
unread_before text files name Done h = h
unread_before text files name Usage h = tt
unread_before text files name (Source fault) h = tt
unread_before text files name (Rejected number why) h = tt
unread_before text files name (Schedule number kind) h = tt
unread_before text files name (Spent event) h = h
unread_before text files name ReadFault h = tt
unread_before text files name WriteFault h = h
unread_before text files name NoMemory h = tt
unread_before text files name (TooLong long) h = tt
unread_before text files name (Arguments kind number) h = tt

refused_before : (text : List ℕ) (end : End) → Sources text (Err end) → ComesBefore end
refused_before text Done h = h
refused_before text Usage h = tt
refused_before text (Source fault) h = tt
refused_before text (Rejected number why) h = tt
refused_before text (Schedule number kind) h = tt
refused_before text (Spent event) h = h
refused_before text ReadFault h = tt
refused_before text WriteFault h = h
refused_before text NoMemory h = tt
refused_before text (TooLong long) h = tt
refused_before text (Arguments kind number) h = tt

early_before : (files : FilesSeen) (end : End) → IsEarly files end → ComesBefore end
early_before files Done h = h
early_before files Usage h = tt
early_before files (Source fault) h = tt
early_before files (Rejected number why) h = tt
early_before files (Schedule number kind) h = tt
early_before files (Spent event) h = h
early_before files ReadFault h = tt
early_before files WriteFault h = h
early_before files NoMemory h = tt
early_before files (TooLong long) h = tt
early_before files (Arguments kind number) h = tt

-- The texts of a run were read, and its events were run.
pub record Ran (files : FilesSeen) (out : SinkSeen) (file derivation schedule : List ℕ) (budget : ℕ) (end : End) (printed : List ℕ) : Type 0 where
  pub program : Program
  pub recorded : Recorded
  pub texts : HasTexts files file derivation schedule program recorded
  pub runs : RunsEvents program recorded budget out end printed

-- a run ends before its events, and printed nothing; or it runs them
pub ran : (files : FilesSeen) (out : SinkSeen) (file derivation schedule : List ℕ) (budget : ℕ) (end : End) (printed : List ℕ) → LineEnds files out (Run file derivation schedule budget) end printed
    → (ComesBefore end × (printed ≡ [])) ⊎ Ran files out file derivation schedule budget end printed
ran files out file derivation schedule budget end printed (inl (h, none)) = inl (unread_before which.Program files file end h, none)
ran files out file derivation schedule budget end printed (inr (text, _, inl (h, none))) = inl (refused_before text end h, none)
ran files out file derivation schedule budget end printed (inr (text, read, inr (program, source, goes))) = by_parts (parts files out derivation schedule budget program end printed goes)
  where
    by_parts : Parts files out derivation schedule budget program end printed → (ComesBefore end × (printed ≡ [])) ⊎ Ran files out file derivation schedule budget end printed
    by_parts (inl early) = inl (early_before files end early.0, early.1)
    by_parts (inr events) = inr (record {
      program = program;
      recorded = events.recorded;
      texts = record {
        text = text;
        steps = events.read.steps;
        lines = events.read.lines;
        text_is = read.0;
        steps_is = events.read.steps_is;
        lines_is = events.read.lines_is;
        is_source = source;
        is_derivation = events.read.is_derivation;
        is_schedule = events.read.is_schedule;
      };
      runs = events.runs;
    })

pub done_is_run_law : DoneIsRun
done_is_run_law files out file derivation schedule budget printed h = by_ran (ran files out file derivation schedule budget Done printed h)
  where
    by_ran : (ComesBefore Done × (printed ≡ [])) ⊎ Ran files out file derivation schedule budget Done printed → (P : Program) × (S : Recorded) × HasTexts files file derivation schedule P S × IsWholeRun P S budget printed
    by_ran (inl (wrong, _)) = absurd wrong
    by_ran (inr is) = (is.program, is.recorded, is.texts, is.runs)

pub spent_is_first_law : SpentIsFirst
spent_is_first_law files out file derivation schedule budget event printed h = by_ran (ran files out file derivation schedule budget (Spent event) printed h)
  where
    by_ran : (ComesBefore (Spent event) × (printed ≡ [])) ⊎ Ran files out file derivation schedule budget (Spent event) printed → (P : Program) × (S : Recorded) × HasTexts files file derivation schedule P S × IsSpentRun P S budget event printed
    by_ran (inl (wrong, _)) = absurd wrong
    by_ran (inr is) = (is.program, is.recorded, is.texts, is.runs)

-- what was printed at a fault of writing or without memory
cut_of : (P : Program) (S : Recorded) (budget : ℕ) (out : SinkSeen) (end : End) (printed : List ℕ) → (end ≡ WriteFault) ⊎ (end ≡ NoMemory) → RunsEvents P S budget out end printed → IsCutRun P S printed
cut_of P S budget out end printed (inl is) runs = let there : RunsEvents P S budget out WriteFault printed = subst (λ (e : End). RunsEvents P S budget out e printed) is runs in there.1
cut_of P S budget out end printed (inr is) runs = let there : RunsEvents P S budget out NoMemory printed = subst (λ (e : End). RunsEvents P S budget out e printed) is runs in there

pub cut_is_run_law : CutIsRun
cut_is_run_law files out file derivation schedule budget end printed h is = by_ran (ran files out file derivation schedule budget end printed h)
  where
    by_ran : (ComesBefore end × (printed ≡ [])) ⊎ Ran files out file derivation schedule budget end printed → (printed ≡ []) ⊎ ((P : Program) × (S : Recorded) × HasTexts files file derivation schedule P S × IsCutRun P S printed)
    by_ran (inl (_, none)) = inl none
    by_ran (inr events) = inr (events.program, events.recorded, events.texts, cut_of events.program events.recorded budget out end printed is events.runs)

pub run_is_refused_law : NeverRejected → RunIsRefused
run_is_refused_law never files out file derivation schedule budget number why printed (inl (h, _)) = absurd h
run_is_refused_law never files out file derivation schedule budget number why printed (inr (text, _, inl (h, _))) = absurd h
run_is_refused_law never files out file derivation schedule budget number why printed (inr (text, read, inr (program, source, goes))) =
    let is : RejectedThere files derivation program number why = rejected_there files out derivation schedule budget program number why printed goes in
    record {
      text = text;
      steps = is.steps;
      program = program;
      text_is = read.0;
      steps_is = is.steps_is;
      is_source = source;
      is_rejected = is.rejected;
      is_none = λ derived. never program is.steps number why derived is.rejected;
    }

pub schedule_is_faulty_law : ScheduleIsFaulty
schedule_is_faulty_law files out file derivation schedule budget number kind printed (inl (h, _)) = absurd h
schedule_is_faulty_law files out file derivation schedule budget number kind printed (inr (text, _, inl (h, _))) = absurd h
schedule_is_faulty_law files out file derivation schedule budget number kind printed (inr (text, read, inr (program, source, goes))) =
    let is : BrokenThere files derivation schedule program number kind = broken_there files out derivation schedule budget program number kind printed goes in
    record {
      text = text;
      steps = is.steps;
      lines = is.lines;
      program = program;
      text_is = read.0;
      steps_is = is.steps_is;
      lines_is = is.lines_is;
      is_source = source;
      is_derivation = is.is_derivation;
      is_fault = is.is_fault;
    }

pub too_long_for_run_is_longer_law : TooLongForRunIsLonger
too_long_for_run_is_longer_law files out file derivation schedule budget printed = (steps, lines)
  where
    steps : LineEnds files out (Run file derivation schedule budget) (TooLong which.Derivation) printed → IsLonger (files.bytes derivation) (limit_of which.Derivation)
    steps (inl ((differ, _), _)) = let no : which.Derivation ≡ which.Program = differ in cc
    steps (inr (text, _, inl (h, _))) = absurd h
    steps (inr (text, _, inr (program, _, inl ((_, (came, consumed, above)), _)))) = longer _ _ came _ consumed above
    steps (inr (text, _, inr (program, _, inr (bytes, _, inl (h, _))))) = absurd h
    steps (inr (text, _, inr (program, _, inr (bytes, _, inr (n, _, inl ((differ, _), _)))))) = let no : which.Derivation ≡ which.Schedule = differ in cc
    steps (inr (text, _, inr (program, _, inr (bytes, _, inr (n, _, inr (read, _, inl (h, _))))))) = absurd h
    steps (inr (text, _, inr (program, _, inr (bytes, _, inr (n, _, inr (read, _, inr (recorded, _, h))))))) = absurd h

    lines : LineEnds files out (Run file derivation schedule budget) (TooLong which.Schedule) printed → IsLonger (files.bytes schedule) (limit_of which.Schedule)
    lines (inl ((differ, _), _)) = let no : which.Schedule ≡ which.Program = differ in cc
    lines (inr (text, _, inl (h, _))) = absurd h
    lines (inr (text, _, inr (program, _, inl ((differ, _), _)))) = let no : which.Schedule ≡ which.Derivation = differ in cc
    lines (inr (text, _, inr (program, _, inr (bytes, _, inl (h, _))))) = absurd h
    lines (inr (text, _, inr (program, _, inr (bytes, _, inr (n, _, inl ((_, (came, consumed, above)), _)))))) = longer _ _ came _ consumed above
    lines (inr (text, _, inr (program, _, inr (bytes, _, inr (n, _, inr (read, _, inl (h, _))))))) = absurd h
    lines (inr (text, _, inr (program, _, inr (bytes, _, inr (n, _, inr (read, _, inr (recorded, _, h))))))) = absurd h

-- What `run` printed, by its end: the lines that the definition gives, or a front of them, and lines that agree.
use Rattle.std.proofs.Common.{◌≡◌, ◌≢◌, ◌≤◌, ℕ, ◌⊎◌, List, [], length, Option, Some, None, inl, inr, refl, sym, subst, arith}
use Rattle.std.proofs.lemmas.List.{take_all}
use Rattle.std.specs.Io.KnownBytes.{Appends}
use Rattle.px_terms.specs.declared.program.Program.{Program}
use Rattle.px_schedule.specs.declared.schedule.Schedule.{Schedule as Recorded}
use Rattle.px_drive.specs.declared.outcome.CommandLine.{CommandLine}
use Rattle.px_drive.specs.declared.outcome.CommandLine.TheVariants.{Check, Replay, Eval, Run}
use Rattle.px_drive.specs.declared.outcome.End.{End}
use Rattle.px_drive.specs.declared.outcome.End.TheVariants.{Done, Usage, Source, Rejected, Schedule, Spent, ReadFault, WriteFault, NoMemory, TooLong, Arguments}
use Rattle.px_drive.specs.declared.outcome.Outcome.{Outcome}
use Rattle.px_drive.specs.Seen.{FilesSeen, SinkSeen}
use Rattle.px_drive.specs.Answers.{Ends, Tells, IsAnswer}
use Rattle.px_drive.specs.Recordings.{IsWholeRun, IsSpentRun, IsCutRun}
use Rattle.px_drive.specs.RunHeadline.{HasRun, RunPrints, PrintsJoins, PrintsAgreeing}
use Rattle.px_drive.specs.RunLaws.{MergesJoin, LinesAgree}
use Rattle.px_drive.proofs.RunCauses.{ComesBefore, Ran, ran}

-- the lines before an event that is spent are a front of themselves
cut_of_spent : (P : Program) (S : Recorded) (budget event : ℕ) (printed : List ℕ) → IsSpentRun P S budget event printed → IsCutRun P S printed
cut_of_spent P S budget event printed is = record {
  R = is.R;
  declared = is.declared;
  place = is.place;
  stands = let below = is.stands in omega (arith, below);
  lines = printed;
  are_lines = is.lines;
  count = length printed;
  front = sym (take_all (length printed) printed (omega arith));
}

module _ (joins : MergesJoin) (files : FilesSeen) (out : SinkSeen) (file derivation schedule : List ℕ) (budget : ℕ) (printed : List ℕ) (wrote : Appends out.old out.new printed) where
  -- what is said of a run whose events were run, by its declaration
  has_run : (Is : Program → Recorded → List ℕ → Type 0) (end : End) (events : Ran files out file derivation schedule budget end printed) → IsCutRun events.program events.recorded printed → Is events.program events.recorded printed
      → HasRun files.bytes file derivation schedule out Is
  has_run Is end events cut is = record {
    text = events.texts.text;
    steps = events.texts.steps;
    lines = events.texts.lines;
    program = events.program;
    recorded = events.recorded;
    R = cut.R;
    printed = printed;
    text_is = events.texts.text_is;
    steps_is = events.texts.steps_is;
    lines_is = events.texts.lines_is;
    is_source = events.texts.is_source;
    is_derivation = events.texts.is_derivation;
    is_schedule = events.texts.is_schedule;
    declared = cut.declared;
    joins = joins events.texts.text events.texts.steps events.program events.recorded.declaration cut.R events.texts.is_source events.texts.is_derivation cut.declared;
    wrote = wrote;
    is = is;
  }

  -- a whole run is one of so many events
  cut_of_whole : (P : Program) (S : Recorded) → IsWholeRun P S budget printed → IsCutRun P S printed
  cut_of_whole P S is = record {
    R = is.R;
    declared = is.declared;
    place = length S.events;
    stands = let all : length S.events ≤ length S.events = omega arith in all;
    lines = printed;
    are_lines = is.lines;
    count = length printed;
    front = sym (take_all (length printed) printed (omega arith));
  }

  nothing : printed ≡ [] → Appends out.old out.new []
  nothing none = subst (Appends out.old out.new) none wrote

  -- what it printed, by the end that it came to
  by_end : (end : End) → (ComesBefore end × (printed ≡ [])) ⊎ Ran files out file derivation schedule budget end printed → RunPrints files.bytes file derivation schedule budget out end
  by_end Done (inl (wrong, _)) = absurd wrong
  by_end Done (inr events) = has_run (λ P S bytes. IsWholeRun P S budget bytes) Done events (cut_of_whole events.program events.recorded events.runs) events.runs
  by_end (Spent event) (inl (wrong, _)) = absurd wrong
  by_end (Spent event) (inr events) = has_run (λ P S bytes. IsSpentRun P S budget event bytes) (Spent event) events (cut_of_spent events.program events.recorded budget event printed events.runs) events.runs
  by_end WriteFault (inl (_, none)) = inl (nothing none)
  by_end WriteFault (inr events) = inr (has_run IsCutRun WriteFault events events.runs.1 events.runs.1)
  by_end NoMemory (inl (_, none)) = inl (nothing none)
  by_end NoMemory (inr events) = inr (has_run IsCutRun NoMemory events events.runs events.runs)
  by_end Usage (inl (_, none)) = nothing none
  by_end Usage (inr events) = absurd events.runs
  by_end (Source fault) (inl (_, none)) = nothing none
  by_end (Source fault) (inr events) = absurd events.runs
  by_end (Rejected number why) (inl (_, none)) = nothing none
  by_end (Rejected number why) (inr events) = absurd events.runs
  by_end (Schedule number kind) (inl (_, none)) = nothing none
  by_end (Schedule number kind) (inr events) = absurd events.runs
  by_end ReadFault (inl (_, none)) = nothing none
  by_end ReadFault (inr events) = absurd events.runs
  by_end (TooLong long) (inl (_, none)) = nothing none
  by_end (TooLong long) (inr events) = absurd events.runs
  by_end (Arguments kind number) (inl (_, none)) = nothing none
  by_end (Arguments kind number) (inr events) = absurd events.runs

  -- where its line was not written, the end is a fault of writing, and what it printed before stands
  untold : (end : End) → end ≢ Done → (ComesBefore end × (printed ≡ [])) ⊎ Ran files out file derivation schedule budget end printed → RunPrints files.bytes file derivation schedule budget out WriteFault
  untold end not_done (inl (_, none)) = inl (nothing none)
  untold Done not_done (inr events) = absurd (not_done refl)
  untold (Spent event) not_done (inr events) = let cut = cut_of_spent events.program events.recorded budget event printed events.runs in inr (has_run IsCutRun (Spent event) events cut cut)
  untold WriteFault not_done (inr events) = inr (has_run IsCutRun WriteFault events events.runs.1 events.runs.1)
  untold NoMemory not_done (inr events) = inr (has_run IsCutRun NoMemory events events.runs events.runs)
  untold Usage not_done (inr events) = absurd events.runs
  untold (Source fault) not_done (inr events) = absurd events.runs
  untold (Rejected number why) not_done (inr events) = absurd events.runs
  untold (Schedule number kind) not_done (inr events) = absurd events.runs
  untold ReadFault not_done (inr events) = absurd events.runs
  untold (TooLong long) not_done (inr events) = absurd events.runs
  untold (Arguments kind number) not_done (inr events) = absurd events.runs

-- what a line of `run` printed
of_line : MergesJoin → (words : List (List ℕ)) (files : FilesSeen) (out err : SinkSeen) (line : Option CommandLine) (told end : End) → Ends words files out line told → Tells told err end → PrintsJoins files.bytes out line end
of_line joins words files out err None told end ends tells = tt
of_line joins words files out err (Some (Check file)) told end ends tells = tt
of_line joins words files out err (Some (Replay file derivation)) told end ends tells = tt
of_line joins words files out err (Some (Eval file name values budget)) told end ends tells = tt
of_line joins words files out err (Some (Run file derivation schedule budget)) told end ends (inl (is, _)) =
    subst (RunPrints files.bytes file derivation schedule budget out) (sym is)
    (by_end joins files out file derivation schedule budget ends.1.printed ends.1.wrote told (ran files out file derivation schedule budget told ends.1.printed ends.1.allowed))
of_line joins words files out err (Some (Run file derivation schedule budget)) told end ends (inr (not_done, is, _, _)) =
    subst (RunPrints files.bytes file derivation schedule budget out) (sym is)
    (untold joins files out file derivation schedule budget ends.1.printed ends.1.wrote told not_done (ran files out file derivation schedule budget told ends.1.printed ends.1.allowed))

-- the lines that a run printed are those of the definition
pub prints_joins : MergesJoin → (words : List (List ℕ)) (files : FilesSeen) (out err : SinkSeen) (outcome : Outcome) → IsAnswer words files out err outcome → PrintsJoins files.bytes out outcome.line outcome.end
prints_joins joins words files out err outcome answer = of_line joins words files out err outcome.line answer.told outcome.end answer.allowed answer.tells

-- lines that were printed by a run that was done or spent agree
agreeing : LinesAgree → (known : List ℕ → Option (List ℕ)) (out : SinkSeen) (line : Option CommandLine) (end : End) → PrintsJoins known out line end → PrintsAgreeing out line end
agreeing agree known out (Some (Run file derivation schedule budget)) Done has = (has.printed, has.wrote, agree has.program has.is.R has.recorded (length has.recorded.events) has.printed has.is.lines)
agreeing agree known out (Some (Run file derivation schedule budget)) (Spent event) has = (has.printed, has.wrote, agree has.program has.is.R has.recorded has.is.place has.printed has.is.lines)
agreeing agree known out None Done has = tt
agreeing agree known out None (Spent event) has = tt
agreeing agree known out (Some (Check file)) Done has = tt
agreeing agree known out (Some (Check file)) (Spent event) has = tt
agreeing agree known out (Some (Replay file derivation)) Done has = tt
agreeing agree known out (Some (Replay file derivation)) (Spent event) has = tt
agreeing agree known out (Some (Eval file name values budget)) Done has = tt
agreeing agree known out (Some (Eval file name values budget)) (Spent event) has = tt
agreeing agree known out line Usage has = tt
agreeing agree known out line (Source fault) has = tt
agreeing agree known out line (Rejected number why) has = tt
agreeing agree known out line (Schedule number kind) has = tt
agreeing agree known out line ReadFault has = tt
agreeing agree known out line WriteFault has = tt
agreeing agree known out line NoMemory has = tt
agreeing agree known out line (TooLong long) has = tt
agreeing agree known out line (Arguments kind number) has = tt

-- where a run is done, and after an event that is not within the budget, its lines agree
pub prints_agreeing : MergesJoin → LinesAgree → (words : List (List ℕ)) (files : FilesSeen) (out err : SinkSeen) (outcome : Outcome) → IsAnswer words files out err outcome → PrintsAgreeing out outcome.line outcome.end
prints_agreeing joins agree words files out err outcome answer = agreeing agree files.bytes out outcome.line outcome.end (prints_joins joins words files out err outcome answer)

-- The laws of the table of causes, each by the stages of the chain.
use Rattle.std.proofs.Common.{◌≡◌, ◌<◌, ◌≤◌, ℕ, ◌⊎◌, List, length, Option, None, Some, Err, inl, inr, refl, ap, sym, subst, ◌∙◌, arith, length-append}
use Rattle.std.specs.Io.KnownBytes.{Consumes}
use Rattle.px_terms.specs.declared.program.Program.{Program as AnyProgram}
use Rattle.px_replay.specs.declared.ends.Why.{Why}
use Rattle.px_world.specs.Faults.{Rose}
use Rattle.px_world.specs.Known.{Told, IsLonger}
use Rattle.px_drive.specs.declared.outcome.CommandLine.{CommandLine}
use Rattle.px_drive.specs.declared.outcome.CommandLine.TheVariants.{Check, Replay, Eval, Run}
use Rattle.px_drive.specs.declared.outcome.Which.TheVariants.{Program, Derivation}
use Rattle.px_drive.specs.declared.outcome.Which.TheVariants as which
use Rattle.px_drive.specs.declared.outcome.End.{End}
use Rattle.px_drive.specs.declared.outcome.End.TheVariants.{Done, Usage, Source, Rejected, Schedule, Spent, ReadFault, WriteFault, NoMemory, TooLong, Arguments}
use Rattle.px_drive.specs.declared.outcome.SourceFault.{SourceFault}
use Rattle.px_drive.specs.declared.outcome.SourceFault.TheVariants.{Lex, Parse, Scope, Typing, Descent}
use Rattle.px_drive.specs.Lines.{line_of, program_of}
use Rattle.px_drive.specs.Seen.{FilesSeen, SinkSeen}
use Rattle.px_drive.specs.Ends.{limit_of, ReadsText, Accepts, Prints, AndThen, LineEnds}
use Rattle.px_drive.specs.Messages.{checked_line, accepted_line, evaluated_by}
use Rattle.px_drive.specs.Sources.{IsSourceFault, Sources}
use Rattle.px_drive.specs.Laws.{OneSourceFault, NeverBoth, NeverRejected, UsageByWords, DoneOrUsage, EndsAreNamed, IsFaulty, SourceIsFaulty, FaultyIsSource, DoneIsChecked, DoneIsReplayed, RejectedIsRefused, TooLongIsLonger, LongIsTooLong, LongIsNotReplayed, RefusalsPrintNothing, LeavesLines, DoneIsEvaluated, ArgumentsAreRefused, SpentIsAbove}
use Rattle.px_drive.specs.declared.outcome.ArgumentKind.{ArgumentKind}
use Rattle.px_schedule.specs.declared.schedule_end.ScheduleKind.{ScheduleKind}
use Rattle.px_drive.proofs.EvalEnds.{EvalGoes, OwnEnd, own_end, Found, found, not_found, Exceeds, exceeds}
use Rattle.px_drive.proofs.RunEnds.{RunGoes, IsLate, OwnRunEnd, own_run_end, parts, events_ends}

-- what a line does after its program was read
abbrev pub Goes : FilesSeen → SinkSeen → CommandLine → AnyProgram → End → List ℕ → Type 0
Goes files out (Check file) program = Prints (checked_line program) out
Goes files out (Replay file derivation) program = AndThen (ReadsText Derivation files derivation) (λ bytes. AndThen (Accepts program bytes) (λ n. Prints (accepted_line n) out))
Goes files out (Eval file name words budget) program = EvalGoes out name words budget program
Goes files out (Run file derivation schedule budget) program = RunGoes files out derivation schedule budget program

-- after its program was read `eval` has its own ends alone
goes_own : (files : FilesSeen) (out : SinkSeen) (file name : List ℕ) (words : List (List ℕ)) (budget : ℕ) (program : AnyProgram) (end : End) (printed : List ℕ) → Goes files out (Eval file name words budget) program end printed → OwnEnd out end
goes_own files out file name words budget program end printed h = own_end out name words budget program end printed h

-- so has `run`
goes_run : (files : FilesSeen) (out : SinkSeen) (file derivation schedule : List ℕ) (budget : ℕ) (program : AnyProgram) (end : End) (printed : List ℕ) → Goes files out (Run file derivation schedule budget) program end printed → OwnRunEnd files out end
goes_run files out file derivation schedule budget program end printed h = own_run_end files out derivation schedule budget program end printed h

-- each line reads its program first
abbrev Begins : FilesSeen → SinkSeen → CommandLine → End → List ℕ → Type 0
Begins files out line end printed = AndThen (ReadsText Program files (program_of line)) (λ text. AndThen (Sources text) (λ program. Goes files out line program)) end printed

begins : (files : FilesSeen) (out : SinkSeen) (line : CommandLine) (end : End) (printed : List ℕ) → LineEnds files out line end printed → Begins files out line end printed
begins files out (Check file) end printed h = h
begins files out (Replay file derivation) end printed h = h
begins files out (Eval file name words budget) end printed h = h
begins files out (Run file derivation schedule budget) end printed h = h

-- a line doesn't end in Usage
pub no_usage : (files : FilesSeen) (out : SinkSeen) (line : CommandLine) (printed : List ℕ) → LineEnds files out line Usage printed → ⊥
no_usage files out (Check file) printed (inl (h, _)) = h
no_usage files out (Check file) printed (inr (text, _, inl (h, _))) = h
no_usage files out (Check file) printed (inr (text, _, inr (program, _, h))) = h
no_usage files out (Replay file derivation) printed (inl (h, _)) = h
no_usage files out (Replay file derivation) printed (inr (text, _, inl (h, _))) = h
no_usage files out (Replay file derivation) printed (inr (text, _, inr (program, _, inl (h, _)))) = h
no_usage files out (Replay file derivation) printed (inr (text, _, inr (program, _, inr (steps, _, inl (h, _))))) = h
no_usage files out (Replay file derivation) printed (inr (text, _, inr (program, _, inr (steps, _, inr (n, _, h))))) = h
no_usage files out (Eval file name words budget) printed (inl (h, _)) = h
no_usage files out (Eval file name words budget) printed (inr (text, _, inl (h, _))) = h
no_usage files out (Eval file name words budget) printed (inr (text, _, inr (program, _, h))) = goes_own files out file name words budget program Usage printed h
no_usage files out (Run file derivation schedule budget) printed (inl (h, _)) = h
no_usage files out (Run file derivation schedule budget) printed (inr (text, _, inl (h, _))) = h
no_usage files out (Run file derivation schedule budget) printed (inr (text, _, inr (program, _, h))) =
    elim (goes_run files out file derivation schedule budget program Usage printed h) [
      | inl early ↦ early
      | inr late ↦ late
    ]

-- `check` ends neither in Rejected, nor with a derivation that is too long
check_is_named : (files : FilesSeen) (out : SinkSeen) (file printed : List ℕ) → ((number : ℕ) (why : Why) → LineEnds files out (Check file) (Rejected number why) printed → ⊥) × (LineEnds files out (Check file) (TooLong Derivation) printed → ⊥)
check_is_named files out file printed = (rejected, derivation)
  where
    rejected : (number : ℕ) (why : Why) → LineEnds files out (Check file) (Rejected number why) printed → ⊥
    rejected number why (inl (h, _)) = h
    rejected number why (inr (text, _, inl (h, _))) = h
    rejected number why (inr (text, _, inr (program, _, h))) = h

    derivation : LineEnds files out (Check file) (TooLong Derivation) printed → ⊥
    derivation (inl ((differ, _), _)) = let no : Derivation ≡ Program = differ in cc
    derivation (inr (text, _, inl (h, _))) = h
    derivation (inr (text, _, inr (program, _, h))) = h

-- `check` reads no schedule
check_has_no_schedule : (files : FilesSeen) (out : SinkSeen) (file printed : List ℕ) → ((number : ℕ) (kind : ScheduleKind) → LineEnds files out (Check file) (Schedule number kind) printed → ⊥) × (LineEnds files out (Check file) (TooLong which.Schedule) printed → ⊥)
check_has_no_schedule files out file printed = (fault, long)
  where
    fault : (number : ℕ) (kind : ScheduleKind) → LineEnds files out (Check file) (Schedule number kind) printed → ⊥
    fault number kind (inl (h, _)) = h
    fault number kind (inr (text, _, inl (h, _))) = h
    fault number kind (inr (text, _, inr (program, _, h))) = h

    long : LineEnds files out (Check file) (TooLong which.Schedule) printed → ⊥
    long (inl ((differ, _), _)) = let no : which.Schedule ≡ Program = differ in cc
    long (inr (text, _, inl (h, _))) = h
    long (inr (text, _, inr (program, _, h))) = h

-- nor does `replay`
replay_has_no_schedule : (files : FilesSeen) (out : SinkSeen) (file derivation printed : List ℕ) → ((number : ℕ) (kind : ScheduleKind) → LineEnds files out (Replay file derivation) (Schedule number kind) printed → ⊥) × (LineEnds files out (Replay file derivation) (TooLong which.Schedule) printed → ⊥)
replay_has_no_schedule files out file derivation printed = (fault, long)
  where
    fault : (number : ℕ) (kind : ScheduleKind) → LineEnds files out (Replay file derivation) (Schedule number kind) printed → ⊥
    fault number kind (inl (h, _)) = h
    fault number kind (inr (text, _, inl (h, _))) = h
    fault number kind (inr (text, _, inr (program, _, inl (h, _)))) = h
    fault number kind (inr (text, _, inr (program, _, inr (steps, _, inl (h, _))))) = h
    fault number kind (inr (text, _, inr (program, _, inr (steps, _, inr (n, _, h))))) = h

    long : LineEnds files out (Replay file derivation) (TooLong which.Schedule) printed → ⊥
    long (inl ((differ, _), _)) = let no : which.Schedule ≡ Program = differ in cc
    long (inr (text, _, inl (h, _))) = h
    long (inr (text, _, inr (program, _, inl ((differ, _), _)))) = let no : which.Schedule ≡ Derivation = differ in cc
    long (inr (text, _, inr (program, _, inr (steps, _, inl (h, _))))) = h
    long (inr (text, _, inr (program, _, inr (steps, _, inr (n, _, h))))) = h

-- nor does `eval`
eval_has_no_schedule : (files : FilesSeen) (out : SinkSeen) (file name : List ℕ) (words : List (List ℕ)) (budget : ℕ) (printed : List ℕ) → ((number : ℕ) (kind : ScheduleKind) → LineEnds files out (Eval file name words budget) (Schedule number kind) printed → ⊥) × (LineEnds files out (Eval file name words budget) (TooLong which.Schedule) printed → ⊥)
eval_has_no_schedule files out file name words budget printed = (fault, long)
  where
    fault : (number : ℕ) (kind : ScheduleKind) → LineEnds files out (Eval file name words budget) (Schedule number kind) printed → ⊥
    fault number kind (inl (h, _)) = h
    fault number kind (inr (text, _, inl (h, _))) = h
    fault number kind (inr (text, _, inr (program, _, h))) = goes_own files out file name words budget program (Schedule number kind) printed h

    long : LineEnds files out (Eval file name words budget) (TooLong which.Schedule) printed → ⊥
    long (inl ((differ, _), _)) = let no : which.Schedule ≡ Program = differ in cc
    long (inr (text, _, inl (h, _))) = h
    long (inr (text, _, inr (program, _, h))) = goes_own files out file name words budget program (TooLong which.Schedule) printed h

-- `run` evaluates no call, and numbers events from 1
run_is_named : (files : FilesSeen) (out : SinkSeen) (file derivation schedule : List ℕ) (budget : ℕ) (printed : List ℕ) → ((kind : ArgumentKind) (word : ℕ) → LineEnds files out (Run file derivation schedule budget) (Arguments kind word) printed → ⊥)
    × ((event : ℕ) → LineEnds files out (Run file derivation schedule budget) (Spent event) printed → 0 < event)
run_is_named files out file derivation schedule budget printed = (arguments, spent)
  where
    arguments : (kind : ArgumentKind) (word : ℕ) → LineEnds files out (Run file derivation schedule budget) (Arguments kind word) printed → ⊥
    arguments kind word (inl (h, _)) = h
    arguments kind word (inr (text, _, inl (h, _))) = h
    arguments kind word (inr (text, _, inr (program, _, h))) =
        elim (goes_run files out file derivation schedule budget program (Arguments kind word) printed h) [
          | inl early ↦ early
          | inr late ↦ late
        ]

    spent : (event : ℕ) → LineEnds files out (Run file derivation schedule budget) (Spent event) printed → 0 < event
    spent event (inl (h, _)) = absurd h
    spent event (inr (text, _, inl (h, _))) = absurd h
    spent event (inr (text, _, inr (program, _, h))) =
        elim (goes_run files out file derivation schedule budget program (Spent event) printed h) [
          | inl early ↦ absurd early
          | inr late ↦ late
        ]

-- `check` evaluates no call
check_asks_no_call : (files : FilesSeen) (out : SinkSeen) (file printed : List ℕ) → ((event : ℕ) → LineEnds files out (Check file) (Spent event) printed → ⊥) × ((kind : ArgumentKind) (word : ℕ) → LineEnds files out (Check file) (Arguments kind word) printed → ⊥)
check_asks_no_call files out file printed = (spent, arguments)
  where
    spent : (event : ℕ) → LineEnds files out (Check file) (Spent event) printed → ⊥
    spent event (inl (h, _)) = h
    spent event (inr (text, _, inl (h, _))) = h
    spent event (inr (text, _, inr (program, _, h))) = h

    arguments : (kind : ArgumentKind) (word : ℕ) → LineEnds files out (Check file) (Arguments kind word) printed → ⊥
    arguments kind word (inl (h, _)) = h
    arguments kind word (inr (text, _, inl (h, _))) = h
    arguments kind word (inr (text, _, inr (program, _, h))) = h

-- nor does `replay`
replay_is_named : (files : FilesSeen) (out : SinkSeen) (file derivation printed : List ℕ) → ((event : ℕ) → LineEnds files out (Replay file derivation) (Spent event) printed → ⊥) × ((kind : ArgumentKind) (word : ℕ) → LineEnds files out (Replay file derivation) (Arguments kind word) printed → ⊥)
replay_is_named files out file derivation printed = (spent, arguments)
  where
    spent : (event : ℕ) → LineEnds files out (Replay file derivation) (Spent event) printed → ⊥
    spent event (inl (h, _)) = h
    spent event (inr (text, _, inl (h, _))) = h
    spent event (inr (text, _, inr (program, _, inl (h, _)))) = h
    spent event (inr (text, _, inr (program, _, inr (steps, _, inl (h, _))))) = h
    spent event (inr (text, _, inr (program, _, inr (steps, _, inr (n, _, h))))) = h

    arguments : (kind : ArgumentKind) (word : ℕ) → LineEnds files out (Replay file derivation) (Arguments kind word) printed → ⊥
    arguments kind word (inl (h, _)) = h
    arguments kind word (inr (text, _, inl (h, _))) = h
    arguments kind word (inr (text, _, inr (program, _, inl (h, _)))) = h
    arguments kind word (inr (text, _, inr (program, _, inr (steps, _, inl (h, _))))) = h
    arguments kind word (inr (text, _, inr (program, _, inr (steps, _, inr (n, _, h))))) = h

-- `eval` replays nothing
eval_is_named : (files : FilesSeen) (out : SinkSeen) (file name : List ℕ) (words : List (List ℕ)) (budget : ℕ) (printed : List ℕ) → ((number : ℕ) (why : Why) → LineEnds files out (Eval file name words budget) (Rejected number why) printed → ⊥) × (LineEnds files out (Eval file name words budget) (TooLong Derivation) printed → ⊥) × ((event : ℕ) → LineEnds files out (Eval file name words budget) (Spent event) printed → event ≡ 0)
eval_is_named files out file name words budget printed = (rejected, derivation, spent)
  where
    rejected : (number : ℕ) (why : Why) → LineEnds files out (Eval file name words budget) (Rejected number why) printed → ⊥
    rejected number why (inl (h, _)) = h
    rejected number why (inr (text, _, inl (h, _))) = h
    rejected number why (inr (text, _, inr (program, _, h))) = goes_own files out file name words budget program (Rejected number why) printed h

    derivation : LineEnds files out (Eval file name words budget) (TooLong Derivation) printed → ⊥
    derivation (inl ((differ, _), _)) = let no : Derivation ≡ Program = differ in cc
    derivation (inr (text, _, inl (h, _))) = h
    derivation (inr (text, _, inr (program, _, h))) = goes_own files out file name words budget program (TooLong Derivation) printed h

    spent : (event : ℕ) → LineEnds files out (Eval file name words budget) (Spent event) printed → event ≡ 0
    spent event (inl (h, _)) = absurd h
    spent event (inr (text, _, inl (h, _))) = absurd h
    spent event (inr (text, _, inr (program, _, h))) = goes_own files out file name words budget program (Spent event) printed h

pub ends_are_named : EndsAreNamed
ends_are_named files out (Check file) Done printed h = tt
ends_are_named files out (Check file) Usage printed h = no_usage files out (Check file) printed h
ends_are_named files out (Check file) (Source (Lex at)) printed h = tt
ends_are_named files out (Check file) (Source (Parse at)) printed h = tt
ends_are_named files out (Check file) (Source (Scope kind at)) printed h = tt
ends_are_named files out (Check file) (Source (Typing kind at)) printed h = tt
ends_are_named files out (Check file) (Source (Descent def call)) printed h = tt
ends_are_named files out (Check file) (Rejected number why) printed h = (check_is_named files out file printed).0 number why h
ends_are_named files out (Check file) (Spent event) printed h = (check_asks_no_call files out file printed).0 event h
ends_are_named files out (Check file) (Arguments kind word) printed h = (check_asks_no_call files out file printed).1 kind word h
ends_are_named files out (Check file) (Schedule number kind) printed h = (check_has_no_schedule files out file printed).0 number kind h
ends_are_named files out (Check file) (TooLong which.Schedule) printed h = (check_has_no_schedule files out file printed).1 h
ends_are_named files out (Check file) ReadFault printed h = tt
ends_are_named files out (Check file) WriteFault printed h = tt
ends_are_named files out (Check file) NoMemory printed h = tt
ends_are_named files out (Check file) (TooLong Program) printed h = tt
ends_are_named files out (Check file) (TooLong Derivation) printed h = (check_is_named files out file printed).1 h
ends_are_named files out (Replay file derivation) Done printed h = tt
ends_are_named files out (Replay file derivation) Usage printed h = no_usage files out (Replay file derivation) printed h
ends_are_named files out (Replay file derivation) (Source fault) printed h = tt
ends_are_named files out (Replay file derivation) (Rejected number why) printed h = tt
ends_are_named files out (Replay file derivation) (Spent event) printed h = (replay_is_named files out file derivation printed).0 event h
ends_are_named files out (Replay file derivation) (Arguments kind word) printed h = (replay_is_named files out file derivation printed).1 kind word h
ends_are_named files out (Replay file derivation) (Schedule number kind) printed h = (replay_has_no_schedule files out file derivation printed).0 number kind h
ends_are_named files out (Replay file derivation) (TooLong which.Schedule) printed h = (replay_has_no_schedule files out file derivation printed).1 h
ends_are_named files out (Replay file derivation) ReadFault printed h = tt
ends_are_named files out (Replay file derivation) WriteFault printed h = tt
ends_are_named files out (Replay file derivation) NoMemory printed h = tt
ends_are_named files out (Replay file derivation) (TooLong Program) printed h = tt
ends_are_named files out (Replay file derivation) (TooLong Derivation) printed h = tt
ends_are_named files out (Eval file name words budget) Done printed h = tt
ends_are_named files out (Eval file name words budget) Usage printed h = no_usage files out (Eval file name words budget) printed h
ends_are_named files out (Eval file name words budget) (Source fault) printed h = tt
ends_are_named files out (Eval file name words budget) (Rejected number why) printed h = (eval_is_named files out file name words budget printed).0 number why h
ends_are_named files out (Eval file name words budget) (Spent event) printed h = (eval_is_named files out file name words budget printed).2 event h
ends_are_named files out (Eval file name words budget) (Schedule number kind) printed h = (eval_has_no_schedule files out file name words budget printed).0 number kind h
ends_are_named files out (Eval file name words budget) (TooLong which.Schedule) printed h = (eval_has_no_schedule files out file name words budget printed).1 h
ends_are_named files out (Eval file name words budget) ReadFault printed h = tt
ends_are_named files out (Eval file name words budget) WriteFault printed h = tt
ends_are_named files out (Eval file name words budget) NoMemory printed h = tt
ends_are_named files out (Eval file name words budget) (TooLong Program) printed h = tt
ends_are_named files out (Eval file name words budget) (TooLong Derivation) printed h = (eval_is_named files out file name words budget printed).1 h
ends_are_named files out (Eval file name words budget) (Arguments kind word) printed h = tt
ends_are_named files out (Run file derivation schedule budget) Done printed h = tt
ends_are_named files out (Run file derivation schedule budget) Usage printed h = no_usage files out (Run file derivation schedule budget) printed h
ends_are_named files out (Run file derivation schedule budget) (Source fault) printed h = tt
ends_are_named files out (Run file derivation schedule budget) (Rejected number why) printed h = tt
ends_are_named files out (Run file derivation schedule budget) (Schedule number kind) printed h = tt
ends_are_named files out (Run file derivation schedule budget) (Spent event) printed h = (run_is_named files out file derivation schedule budget printed).1 event h
ends_are_named files out (Run file derivation schedule budget) ReadFault printed h = tt
ends_are_named files out (Run file derivation schedule budget) WriteFault printed h = tt
ends_are_named files out (Run file derivation schedule budget) NoMemory printed h = tt
ends_are_named files out (Run file derivation schedule budget) (TooLong long) printed h = tt
ends_are_named files out (Run file derivation schedule budget) (Arguments kind word) printed h = (run_is_named files out file derivation schedule budget printed).0 kind word h

pub usage_is_by_words : UsageByWords
usage_is_by_words words files out None Usage h = (λ _. h.0, λ _. inl refl)
usage_is_by_words words files out None NoMemory h = (λ (e : NoMemory ≡ Usage). (cc), λ _. inr refl)
usage_is_by_words words files out None Done h = absurd h.0
usage_is_by_words words files out None (Source fault) h = absurd h.0
usage_is_by_words words files out None (Schedule number kind) h = absurd h.0
usage_is_by_words words files out None (Rejected number why) h = absurd h.0
usage_is_by_words words files out None (Spent event) h = absurd h.0
usage_is_by_words words files out None (Arguments kind word) h = absurd h.0
usage_is_by_words words files out None ReadFault h = absurd h.0
usage_is_by_words words files out None WriteFault h = absurd h.0
usage_is_by_words words files out None (TooLong text) h = absurd h.0
usage_is_by_words words files out (Some line) end (is, runs) = (
  λ (e : end ≡ Usage). absurd (no_usage files out line runs.printed (subst (λ (x : End). LineEnds files out line x runs.printed) e runs.allowed)),
  λ (none : line_of words ≡ None). cc,
)

pub done_or_usage : DoneOrUsage
done_or_usage words files others out other None another (h, _) usage = h
done_or_usage words files others out other (Some line) another (is, _) usage =
    let none : line_of words ≡ None = (usage_is_by_words words others other another Usage usage).0 refl in
    cc

pub done_is_checked : DoneIsChecked
done_is_checked files out file printed (inl (h, _)) = absurd h
done_is_checked files out file printed (inr (text, _, inl (h, _))) = absurd h
done_is_checked files out file printed (inr (text, read, inr (program, source, is))) = record { text = text; program = program; text_is = read.0; is_source = source; printed_is = is }

pub done_is_replayed : DoneIsReplayed
done_is_replayed files out file derivation printed (inl (h, _)) = absurd h
done_is_replayed files out file derivation printed (inr (text, _, inl (h, _))) = absurd h
done_is_replayed files out file derivation printed (inr (text, _, inr (program, _, inl (h, _)))) = absurd h
done_is_replayed files out file derivation printed (inr (text, _, inr (program, _, inr (steps, _, inl (h, _))))) = absurd h
done_is_replayed files out file derivation printed (inr (text, read, inr (program, source, inr (steps, steps_read, inr (n, (accepts, count), is))))) = record {
  text = text;
  steps = steps;
  program = program;
  text_is = read.0;
  steps_is = steps_read.0;
  is_source = source;
  is_derivation = accepts;
  printed_is = rw (← count) is;
}

pub done_is_evaluated : DoneIsEvaluated
done_is_evaluated files out file name words budget printed (inl (h, _)) = absurd h
done_is_evaluated files out file name words budget printed (inr (text, _, inl (h, _))) = absurd h
done_is_evaluated files out file name words budget printed (inr (text, read, inr (program, source, h))) =
    let is : Found name words budget program printed = found out name words budget program printed h in
    record {
      text = text;
      program = program;
      call = is.call;
      value = is.value;
      calls = is.calls;
      text_is = read.0;
      is_source = source;
      is_call = is.is_call;
      is_value = is.is_value;
      within = is.within;
      printed_is = is.printed_is;
    }

pub arguments_are_refused : ArgumentsAreRefused
arguments_are_refused files out file name words budget printed kind number (inl (h, _)) = absurd h
arguments_are_refused files out file name words budget printed kind number (inr (text, _, inl (h, _))) = absurd h
arguments_are_refused files out file name words budget printed kind number (inr (text, read, inr (program, source, h))) =
    record { text = text; program = program; text_is = read.0; is_source = source; is_no_call = not_found out name words budget program printed kind number h }

pub spent_is_above : SpentIsAbove
spent_is_above files out file name words budget printed event (inl (h, _)) = absurd h
spent_is_above files out file name words budget printed event (inr (text, _, inl (h, _))) = absurd h
spent_is_above files out file name words budget printed event (inr (text, read, inr (program, source, h))) =
    let is : Exceeds name words budget program = exceeds out name words budget program printed event h in (
      goes_own files out file name words budget program (Spent event) printed h,
      record {
        text = text;
        program = program;
        call = is.call;
        value = is.value;
        calls = is.calls;
        text_is = read.0;
        is_source = source;
        is_call = is.is_call;
        is_value = is.is_value;
        above = is.above;
      },
    )

pub rejected_is_refused : NeverRejected → RejectedIsRefused
rejected_is_refused never files out file derivation printed number why (inl (h, _)) = absurd h
rejected_is_refused never files out file derivation printed number why (inr (text, _, inl (h, _))) = absurd h
rejected_is_refused never files out file derivation printed number why (inr (text, _, inr (program, _, inl (h, _)))) = absurd h
rejected_is_refused never files out file derivation printed number why (inr (text, read, inr (program, source, inr (steps, steps_read, inl (refused, _))))) = record {
  text = text;
  steps = steps;
  program = program;
  text_is = read.0;
  steps_is = steps_read.0;
  is_source = source;
  is_rejected = refused;
  is_none = λ derived. never program steps number why derived refused;
}
rejected_is_refused never files out file derivation printed number why (inr (text, _, inr (program, _, inr (steps, _, inr (n, _, h))))) = absurd h

-- a text of which more than the limit came is longer than that
pub longer : (known left : Option (List ℕ)) (came : List ℕ) (limit : ℕ) → Consumes known left came → limit < length came → IsLonger known limit
longer None left came limit consumed above = tt
longer (Some text) None came limit consumed above = absurd consumed
longer (Some text) (Some rest) came limit consumed above = omega (arith, ap length consumed, length-append came rest)

-- after the program was read it isn't too long
not_too_long : (files : FilesSeen) (out : SinkSeen) (line : CommandLine) (program : AnyProgram) (printed : List ℕ) → Goes files out line program (TooLong Program) printed → ⊥
not_too_long files out (Check file) program printed h = h
not_too_long files out (Replay file derivation) program printed (inl ((differ, _), _)) = let no : Program ≡ Derivation = differ in cc
not_too_long files out (Replay file derivation) program printed (inr (bytes, _, inl (h, _))) = h
not_too_long files out (Replay file derivation) program printed (inr (bytes, _, inr (n, _, h))) = h
not_too_long files out (Eval file name words budget) program printed h = goes_own files out file name words budget program (TooLong Program) printed h
not_too_long files out (Run file derivation schedule budget) program printed h =
    elim (goes_run files out file derivation schedule budget program (TooLong Program) printed h) [
      | inl early ↦ early refl
      | inr late ↦ late
    ]

program_is_longer : (files : FilesSeen) (out : SinkSeen) (line : CommandLine) (printed : List ℕ) → Begins files out line (TooLong Program) printed → IsLonger (files.bytes (program_of line)) (limit_of Program)
program_is_longer files out line printed (inl ((_, (came, consumed, above)), _)) = longer _ _ came _ consumed above
program_is_longer files out line printed (inr (text, _, inl (h, _))) = absurd h
program_is_longer files out line printed (inr (text, _, inr (program, _, h))) = absurd (not_too_long files out line program printed h)

pub too_long_is_longer : TooLongIsLonger
too_long_is_longer files out line file derivation printed = (λ h. program_is_longer files out line printed (begins files out line (TooLong Program) printed h), steps)
  where
    steps : LineEnds files out (Replay file derivation) (TooLong Derivation) printed → IsLonger (files.bytes derivation) (limit_of Derivation)
    steps (inl ((differ, _), _)) = cc
    steps (inr (text, _, inl (h, _))) = absurd h
    steps (inr (text, _, inr (read, _, inl ((_, (came, consumed, above)), _)))) = longer _ _ came _ consumed above
    steps (inr (text, _, inr (read, _, inr (bytes, _, inl (h, _))))) = absurd h
    steps (inr (text, _, inr (read, _, inr (bytes, _, inr (n, _, h))))) = absurd h

-- a told text that is longer than the limit isn't read whole
pub not_whole : (known : Option (List ℕ)) (text bytes : List ℕ) (limit : ℕ) → known ≡ Some text → limit < length text → Told known bytes → length bytes ≤ limit → ⊥
not_whole None text bytes limit known above told fits = cc
not_whole (Some whole) text bytes limit known above told fits =
    let same : whole ≡ text = cc in
    omega (arith, ap length told, ap length same)

long_ends : (files : FilesSeen) (out : SinkSeen) (line : CommandLine) (printed text : List ℕ) (end : End) → files.bytes (program_of line) ≡ Some text → limit_of Program < length text → Begins files out line end printed → (end ≡ TooLong Program) ⊎ ((end ≡ ReadFault) ⊎ (end ≡ NoMemory))
long_ends files out line printed text end known above (inr (bytes, read, rest)) = absurd (not_whole (files.bytes (program_of line)) text bytes (limit_of Program) known above read.0 read.1)
long_ends files out line printed text (TooLong long) known above (inl ((is, _), _)) = inl (ap TooLong is)
long_ends files out line printed text ReadFault known above (inl h) = inr (inl refl)
long_ends files out line printed text NoMemory known above (inl h) = inr (inr refl)
long_ends files out line printed text Done known above (inl (h, _)) = absurd h
long_ends files out line printed text Usage known above (inl (h, _)) = absurd h
long_ends files out line printed text (Schedule at rule) known above (inl (h, _)) = absurd h
long_ends files out line printed text (Source fault) known above (inl (h, _)) = absurd h
long_ends files out line printed text (Rejected number why) known above (inl (h, _)) = absurd h
long_ends files out line printed text (Spent event) known above (inl (h, _)) = absurd h
long_ends files out line printed text (Arguments kind word) known above (inl (h, _)) = absurd h
long_ends files out line printed text WriteFault known above (inl (h, _)) = absurd h

pub long_is_too_long : LongIsTooLong
long_is_too_long files out line printed text end known above h = long_ends files out line printed text end known above (begins files out line end printed h)

pub long_is_not_replayed : LongIsNotReplayed
long_is_not_replayed files out file derivation printed bytes Done known above (inl (h, _)) = absurd h
long_is_not_replayed files out file derivation printed bytes Done known above (inr (text, _, inl (h, _))) = absurd h
long_is_not_replayed files out file derivation printed bytes Done known above (inr (text, _, inr (program, _, inl (h, _)))) = absurd h
long_is_not_replayed files out file derivation printed bytes Done known above (inr (text, _, inr (program, _, inr (steps, read, rest)))) =
    absurd (not_whole (files.bytes derivation) bytes steps (limit_of Derivation) known above read.0 read.1)
long_is_not_replayed files out file derivation printed bytes (Rejected number why) known above (inl (h, _)) = absurd h
long_is_not_replayed files out file derivation printed bytes (Rejected number why) known above (inr (text, _, inl (h, _))) = absurd h
long_is_not_replayed files out file derivation printed bytes (Rejected number why) known above (inr (text, _, inr (program, _, inl (h, _)))) = absurd h
long_is_not_replayed files out file derivation printed bytes (Rejected number why) known above (inr (text, _, inr (program, _, inr (steps, read, rest)))) =
    absurd (not_whole (files.bytes derivation) bytes steps (limit_of Derivation) known above read.0 read.1)
long_is_not_replayed files out file derivation printed bytes WriteFault known above (inl (h, _)) = absurd h
long_is_not_replayed files out file derivation printed bytes WriteFault known above (inr (text, _, inl (h, _))) = absurd h
long_is_not_replayed files out file derivation printed bytes WriteFault known above (inr (text, _, inr (program, _, inl (h, _)))) = absurd h
long_is_not_replayed files out file derivation printed bytes WriteFault known above (inr (text, _, inr (program, _, inr (steps, read, rest)))) =
    absurd (not_whole (files.bytes derivation) bytes steps (limit_of Derivation) known above read.0 read.1)
long_is_not_replayed files out file derivation printed bytes (Schedule number kind) known above h = (replay_has_no_schedule files out file derivation printed).0 number kind h
long_is_not_replayed files out file derivation printed bytes (Spent event) known above h = (replay_is_named files out file derivation printed).0 event h
long_is_not_replayed files out file derivation printed bytes (Arguments kind word) known above h = (replay_is_named files out file derivation printed).1 kind word h
long_is_not_replayed files out file derivation printed bytes Usage known above h = no_usage files out (Replay file derivation) printed h
long_is_not_replayed files out file derivation printed bytes (Source fault) known above h = tt
long_is_not_replayed files out file derivation printed bytes ReadFault known above h = tt
long_is_not_replayed files out file derivation printed bytes NoMemory known above h = tt
long_is_not_replayed files out file derivation printed bytes (TooLong long) known above h = tt

-- the last stage has no other end than Done and a fault of writing
prints_done : (line : List ℕ) (out : SinkSeen) (end : End) (printed : List ℕ) → Prints line out end printed → (end ≡ Done) ⊎ (end ≡ WriteFault)
prints_done line out Done printed h = inl refl
prints_done line out WriteFault printed h = inr refl
prints_done line out Usage printed h = absurd h
prints_done line out (Schedule at rule) printed h = absurd h
prints_done line out (Source fault) printed h = absurd h
prints_done line out (Rejected number why) printed h = absurd h
prints_done line out (Spent event) printed h = absurd h
prints_done line out (Arguments kind word) printed h = absurd h
prints_done line out ReadFault printed h = absurd h
prints_done line out NoMemory printed h = absurd h
prints_done line out (TooLong long) printed h = absurd h

neither : (end : End) → (end ≡ Done) ⊎ (end ≡ WriteFault) → ¬ (end ≡ Done) → ¬ (end ≡ WriteFault) → ⊥
neither end (inl is) not_done not_fault = not_done is
neither end (inr is) not_done not_fault = not_fault is

-- where events end a run, it is done, or it may have printed lines
late_prints : (files : FilesSeen) (out : SinkSeen) (file derivation schedule : List ℕ) (budget : ℕ) (end : End) → IsLate out end → ¬ (end ≡ Done) → ¬ (end ≡ WriteFault) → ¬ LeavesLines (Run file derivation schedule budget) end → ⊥
late_prints files out file derivation schedule budget Done late not_done not_fault no_lines = not_done refl
late_prints files out file derivation schedule budget WriteFault late not_done not_fault no_lines = not_fault refl
late_prints files out file derivation schedule budget (Spent event) late not_done not_fault no_lines = no_lines tt
late_prints files out file derivation schedule budget NoMemory late not_done not_fault no_lines = no_lines tt
late_prints files out file derivation schedule budget Usage late not_done not_fault no_lines = late
late_prints files out file derivation schedule budget (Source fault) late not_done not_fault no_lines = late
late_prints files out file derivation schedule budget (Rejected number why) late not_done not_fault no_lines = late
late_prints files out file derivation schedule budget (Schedule number kind) late not_done not_fault no_lines = late
late_prints files out file derivation schedule budget ReadFault late not_done not_fault no_lines = late
late_prints files out file derivation schedule budget (TooLong long) late not_done not_fault no_lines = late
late_prints files out file derivation schedule budget (Arguments kind word) late not_done not_fault no_lines = late

pub refusals_print_nothing : RefusalsPrintNothing
refusals_print_nothing files out (Check file) printed end (inl (_, none)) not_done not_fault no_lines = none
refusals_print_nothing files out (Check file) printed end (inr (text, _, inl (_, none))) not_done not_fault no_lines = none
refusals_print_nothing files out (Check file) printed end (inr (text, _, inr (program, _, h))) not_done not_fault no_lines = absurd (neither end (prints_done (checked_line program) out end printed h) not_done not_fault)
refusals_print_nothing files out (Replay file derivation) printed end (inl (_, none)) not_done not_fault no_lines = none
refusals_print_nothing files out (Replay file derivation) printed end (inr (text, _, inl (_, none))) not_done not_fault no_lines = none
refusals_print_nothing files out (Replay file derivation) printed end (inr (text, _, inr (program, _, inl (_, none)))) not_done not_fault no_lines = none
refusals_print_nothing files out (Replay file derivation) printed end (inr (text, _, inr (program, _, inr (steps, _, inl (_, none))))) not_done not_fault no_lines = none
refusals_print_nothing files out (Replay file derivation) printed end (inr (text, _, inr (program, _, inr (steps, _, inr (n, _, h))))) not_done not_fault no_lines = absurd (neither end (prints_done (accepted_line n) out end printed h) not_done not_fault)
refusals_print_nothing files out (Eval file name words budget) printed end (inl (_, none)) not_done not_fault no_lines = none
refusals_print_nothing files out (Eval file name words budget) printed end (inr (text, _, inl (_, none))) not_done not_fault no_lines = none
refusals_print_nothing files out (Eval file name words budget) printed end (inr (text, _, inr (program, _, inl (_, none)))) not_done not_fault no_lines = none
refusals_print_nothing files out (Eval file name words budget) printed end (inr (text, _, inr (program, _, inr (call, _, inl (_, none))))) not_done not_fault no_lines = none
refusals_print_nothing files out (Eval file name words budget) printed end (inr (text, _, inr (program, _, inr (call, _, inr (done, _, inl (_, none)))))) not_done not_fault no_lines = none
refusals_print_nothing files out (Eval file name words budget) printed end (inr (text, _, inr (program, _, inr (call, _, inr (done, _, inr (bytes, _, h)))))) not_done not_fault no_lines =
    absurd (neither end (prints_done (evaluated_by bytes done.calls) out end printed h) not_done not_fault)
refusals_print_nothing files out (Run file derivation schedule budget) printed end (inl (_, none)) not_done not_fault no_lines = none
refusals_print_nothing files out (Run file derivation schedule budget) printed end (inr (text, _, inl (_, none))) not_done not_fault no_lines = none
refusals_print_nothing files out (Run file derivation schedule budget) printed end (inr (text, _, inr (program, _, h))) not_done not_fault no_lines =
    elim (parts files out derivation schedule budget program end printed h) [
      | inl early ↦ early.1
      | inr ran ↦ absurd (late_prints files out file derivation schedule budget end (events_ends program ran.recorded budget out end printed ran.runs) not_done not_fault no_lines)
    ]

-- after the program was read there is no fault of its text
no_fault_later : (files : FilesSeen) (out : SinkSeen) (line : CommandLine) (program : AnyProgram) (fault : SourceFault) (printed : List ℕ) → Goes files out line program (Source fault) printed → ⊥
no_fault_later files out (Check file) program fault printed h = h
no_fault_later files out (Replay file derivation) program fault printed (inl (h, _)) = h
no_fault_later files out (Replay file derivation) program fault printed (inr (bytes, _, inl (h, _))) = h
no_fault_later files out (Replay file derivation) program fault printed (inr (bytes, _, inr (n, _, h))) = h
no_fault_later files out (Eval file name words budget) program fault printed h = goes_own files out file name words budget program (Source fault) printed h
no_fault_later files out (Run file derivation schedule budget) program fault printed h =
    elim (goes_run files out file derivation schedule budget program (Source fault) printed h) [
      | inl early ↦ early
      | inr late ↦ late
    ]

faulty : (files : FilesSeen) (out : SinkSeen) (line : CommandLine) (printed : List ℕ) (fault : SourceFault) → Begins files out line (Source fault) printed → IsFaulty files line fault
faulty files out line printed fault (inl (h, _)) = absurd h
faulty files out line printed fault (inr (text, read, inl (source, _))) = record { text = text; text_is = read.0; is_fault = source }
faulty files out line printed fault (inr (text, read, inr (program, source, h))) = absurd (no_fault_later files out line program fault printed h)

pub source_is_faulty : SourceIsFaulty
source_is_faulty files out line printed fault h = faulty files out line printed fault (begins files out line (Source fault) printed h)

-- the bytes that were read are those that are told
pub told_is : (known : Option (List ℕ)) (text bytes : List ℕ) → known ≡ Some text → Told known bytes → bytes ≡ text
told_is None text bytes known told = cc
told_is (Some whole) text bytes known told = told ∙ (let same : whole ≡ text = cc in same)

-- a told text is not longer than a limit that it is within
pub not_longer : (known : Option (List ℕ)) (text : List ℕ) (limit : ℕ) → known ≡ Some text → length text ≤ limit → IsLonger known limit → ⊥
not_longer None text limit known fits above = cc
not_longer (Some whole) text limit known fits above = let same : whole ≡ text = cc in omega (arith, ap length same)

-- the line ends with the fault, but for a fault of reading or want of memory
abbrev EndsWith : SourceFault → End → Type 0
EndsWith fault end = (end ≡ Source fault) ⊎ ((end ≡ ReadFault) ⊎ (end ≡ NoMemory))

module _ (one_fault : OneSourceFault) (never_both : NeverBoth) where
  -- a text that has a fault is refused for it, but for want of memory
  refused : (text : List ℕ) (fault : SourceFault) (end : End) → IsSourceFault text fault → Sources text (Err end) → EndsWith fault end
  refused text fault (Source found) is h = inl (ap Source (one_fault text found fault h is))
  refused text fault NoMemory is h = inr (inr refl)
  refused text fault Done is h = absurd h
  refused text fault Usage is h = absurd h
  refused text fault (Schedule at rule) is h = absurd h
  refused text fault (Rejected number why) is h = absurd h
  refused text fault (Spent event) is h = absurd h
  refused text fault (Arguments kind word) is h = absurd h
  refused text fault ReadFault is h = absurd h
  refused text fault WriteFault is h = absurd h
  refused text fault (TooLong long) is h = absurd h

  faulty_ends : (files : FilesSeen) (out : SinkSeen) (line : CommandLine) (printed text : List ℕ) (fault : SourceFault) (end : End) → files.bytes (program_of line) ≡ Some text → length text ≤ limit_of Program
      → IsSourceFault text fault → Begins files out line end printed → EndsWith fault end
  faulty_ends files out line printed text fault end known fits is (inr (bytes, read, inl (source, _))) =
      let same : bytes ≡ text = told_is (files.bytes (program_of line)) text bytes known read.0 in
      refused bytes fault end (subst (λ (b : List ℕ). IsSourceFault b fault) (sym same) is) source
  faulty_ends files out line printed text fault end known fits is (inr (bytes, read, inr (program, source, goes))) =
      let same : bytes ≡ text = told_is (files.bytes (program_of line)) text bytes known read.0 in
      absurd (never_both bytes program fault source (subst (λ (b : List ℕ). IsSourceFault b fault) (sym same) is))
  faulty_ends files out line printed text fault (TooLong long) known fits is (inl ((_, (came, consumed, above)), _)) = absurd (not_longer (files.bytes (program_of line)) text (limit_of Program) known fits (longer (files.bytes (program_of line)) files.left came (limit_of Program) consumed above))
  faulty_ends files out line printed text fault ReadFault known fits is (inl h) = inr (inl refl)
  faulty_ends files out line printed text fault NoMemory known fits is (inl h) = inr (inr refl)
  faulty_ends files out line printed text fault Done known fits is (inl (h, _)) = absurd h
  faulty_ends files out line printed text fault Usage known fits is (inl (h, _)) = absurd h
  faulty_ends files out line printed text fault (Schedule at rule) known fits is (inl (h, _)) = absurd h
  faulty_ends files out line printed text fault (Source found) known fits is (inl (h, _)) = absurd h
  faulty_ends files out line printed text fault (Rejected number why) known fits is (inl (h, _)) = absurd h
  faulty_ends files out line printed text fault (Spent event) known fits is (inl (h, _)) = absurd h
  faulty_ends files out line printed text fault (Arguments kind word) known fits is (inl (h, _)) = absurd h
  faulty_ends files out line printed text fault WriteFault known fits is (inl (h, _)) = absurd h

  pub faulty_is_source : FaultyIsSource
  faulty_is_source files out line printed text fault end known fits is h = faulty_ends files out line printed text fault end known fits is (begins files out line end printed h)

-- a program that was read goes on to no fault of reading without its cause
goes_fault : (files : FilesSeen) (out : SinkSeen) (line : CommandLine) (program : AnyProgram) (printed : List ℕ) → Goes files out line program ReadFault printed → Rose files.before files.after
goes_fault files out (Check file) program printed h = absurd h
goes_fault files out (Replay file derivation) program printed (inl (reads, _)) = reads.0
goes_fault files out (Replay file derivation) program printed (inr (bytes, _, inl (h, _))) = absurd h
goes_fault files out (Replay file derivation) program printed (inr (bytes, _, inr (n, _, h))) = absurd h
goes_fault files out (Eval file name words budget) program printed h = absurd (goes_own files out file name words budget program ReadFault printed h)
goes_fault files out (Run file derivation schedule budget) program printed h =
    elim (goes_run files out file derivation schedule budget program ReadFault printed h) [
      | inl early ↦ early
      | inr late ↦ absurd late
    ]

read_fault : (files : FilesSeen) (out : SinkSeen) (line : CommandLine) (printed : List ℕ) → Begins files out line ReadFault printed → Rose files.before files.after
read_fault files out line printed (inl (reads, _)) = reads.0
read_fault files out line printed (inr (text, _, inl (h, _))) = absurd h
read_fault files out line printed (inr (text, _, inr (program, _, h))) = goes_fault files out line program printed h

-- a line ends with a fault of reading only where the files' count rose
pub read_fault_rose : (files : FilesSeen) (out : SinkSeen) (line : CommandLine) (printed : List ℕ) → LineEnds files out line ReadFault printed → Rose files.before files.after
read_fault_rose files out line printed h = read_fault files out line printed (begins files out line ReadFault printed h)

goes_unwritten : (files : FilesSeen) (out : SinkSeen) (line : CommandLine) (program : AnyProgram) (printed : List ℕ) → Goes files out line program WriteFault printed → Rose out.before out.after
goes_unwritten files out (Check file) program printed h = h.0
goes_unwritten files out (Replay file derivation) program printed (inl (h, _)) = absurd h
goes_unwritten files out (Replay file derivation) program printed (inr (bytes, _, inl (h, _))) = absurd h
goes_unwritten files out (Replay file derivation) program printed (inr (bytes, _, inr (n, _, h))) = h.0
goes_unwritten files out (Eval file name words budget) program printed h = goes_own files out file name words budget program WriteFault printed h
goes_unwritten files out (Run file derivation schedule budget) program printed h =
    elim (goes_run files out file derivation schedule budget program WriteFault printed h) [
      | inl early ↦ absurd early
      | inr late ↦ late
    ]

unwritten : (files : FilesSeen) (out : SinkSeen) (line : CommandLine) (printed : List ℕ) → Begins files out line WriteFault printed → Rose out.before out.after
unwritten files out line printed (inl (h, _)) = absurd h
unwritten files out line printed (inr (text, _, inl (h, _))) = absurd h
unwritten files out line printed (inr (text, _, inr (program, _, h))) = goes_unwritten files out line program printed h

-- a line ends with a fault of writing only where the sink's count rose
pub write_fault_rose : (files : FilesSeen) (out : SinkSeen) (line : CommandLine) (printed : List ℕ) → LineEnds files out line WriteFault printed → Rose out.before out.after
write_fault_rose files out line printed h = unwritten files out line printed (begins files out line WriteFault printed h)

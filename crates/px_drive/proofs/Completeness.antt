-- A line whose work can be done is done, where no count of faults rose.
use Rattle.std.proofs.Common.{◌≡◌, ◌≤◌, ℕ, ◌⊎◌, List, Option, None, Some, Result, Ok, Err, inl, inr, refl, ap, subst, sym, ◌∙◌}
use Rattle.px_terms.specs.declared.term.Value.{Value}
use Rattle.px_terms.specs.declared.program.Program.{Program}
use Rattle.px_world.specs.Faults.{Rose}
use Rattle.px_drive.specs.declared.arguments.ClosedCall.{ClosedCall}
use Rattle.px_drive.specs.declared.outcome.CommandLine.{CommandLine}
use Rattle.px_drive.specs.declared.outcome.CommandLine.TheVariants.{Check, Replay, Eval, Run}
use Rattle.px_drive.specs.declared.outcome.Which.{Which}
use Rattle.px_drive.specs.declared.outcome.Which.TheVariants as which
use Rattle.px_drive.specs.declared.outcome.End.{End}
use Rattle.px_drive.specs.declared.outcome.End.TheVariants.{Done, Usage, Source, Rejected, Schedule, Spent, ReadFault, WriteFault, NoMemory, TooLong, Arguments}
use Rattle.px_drive.specs.declared.outcome.Outcome.{Outcome}
use Rattle.px_drive.specs.Lines.{line_of, ReadsLine}
use Rattle.px_schedule.specs.declared.schedule.Schedule.{Schedule as Recorded}
use Rattle.px_schedule.specs.Schedules.{IsSchedule}
use Rattle.px_machine.specs.ValueText.{value_text}
use Rattle.px_drive.specs.Messages.{checked_line, accepted_line, evaluated_by}
use Rattle.px_drive.specs.Seen.{FilesSeen, SinkSeen}
use Rattle.px_drive.specs.Ends.{limit_of, ReadsText, Accepts, Prints, RunsEvents, LineEnds}
use Rattle.px_drive.specs.Sources.{IsSource, Sources}
use Rattle.px_drive.specs.Derivations.{IsDerivationOf}
use Rattle.px_drive.specs.Arguments.{IsCall, IsValueOfCall}
use Rattle.px_drive.specs.Laws.{OneSource, NeverBoth, NeverRejected, OneCall, NeverCallAndNone, OneValueOfCall}
use Rattle.px_drive.specs.Answers.{Ends, Tells, IsAnswer}
use Rattle.px_drive.specs.Completeness.{NoneRose, HasText, NoneIsAbove, CanBeDone, checked, replayed, evaluated, ran, IsDone, IsComplete}
use Rattle.px_drive.proofs.EvalEnds.{EvalGoes}
use Rattle.px_drive.proofs.Causes.{Goes, longer, told_is, not_longer, read_fault_rose}
use Rattle.px_drive.proofs.TextEnds.{IsChance, program_read}
use Rattle.px_drive.proofs.RunChances.{SchedulesAreCertain, RunsAreCertain, reaches, events_done}
use Rattle.px_drive.proofs.ArgumentEnds.{unspelled, call_found, within_ends}

-- A text is one program and has no fault, a derivation of it is not rejected, arguments are one call, with one value, and a text is one
-- schedule and has no fault.
pub record AreCertain : Type 0 where
  pub one_source : OneSource
  pub never_both : NeverBoth
  pub never_rejected : NeverRejected
  pub one_call : OneCall
  pub never_call_and_none : NeverCallAndNone
  pub one_value_of_call : OneValueOfCall
  pub schedules : SchedulesAreCertain

-- a text that is told and within its limit is read whole, but for want of memory
read_whole : (text : Which) (files : FilesSeen) (name bytes : List ℕ) (result : Result (List ℕ) End) → HasText files text name bytes → ¬ Rose files.before files.after → ReadsText text files name result → (result ≡ Ok bytes) ⊎ (result ≡ Err NoMemory)
read_whole text files name bytes (Ok read) has calm reads = inl (ap Ok (told_is (files.bytes name) bytes read has.told reads.0))
read_whole text files name bytes (Err (TooLong long)) has calm (is, (came, consumed, above)) = absurd (not_longer (files.bytes name) bytes (limit_of text) has.told has.fits (longer (files.bytes name) files.left came (limit_of text) consumed above))
read_whole text files name bytes (Err ReadFault) has calm reads = absurd (calm reads.0)
read_whole text files name bytes (Err NoMemory) has calm reads = inr refl
read_whole text files name bytes (Err Done) has calm reads = absurd reads
read_whole text files name bytes (Err Usage) has calm reads = absurd reads
read_whole text files name bytes (Err (Schedule at rule)) has calm reads = absurd reads
read_whole text files name bytes (Err (Source fault)) has calm reads = absurd reads
read_whole text files name bytes (Err (Rejected number why)) has calm reads = absurd reads
read_whole text files name bytes (Err (Spent event)) has calm reads = absurd reads
read_whole text files name bytes (Err (Arguments kind word)) has calm reads = absurd reads
read_whole text files name bytes (Err WriteFault) has calm reads = absurd reads

no_memory : (result : Result (List ℕ) End) (end : End) (bytes : List ℕ) → result ≡ Err end → (result ≡ Ok bytes) ⊎ (result ≡ Err NoMemory) → end ≡ NoMemory
no_memory result end bytes ends (inl is) = cc
no_memory result end bytes ends (inr is) = cc

same_bytes : (result : Result (List ℕ) End) (read bytes : List ℕ) → result ≡ Ok read → (result ≡ Ok bytes) ⊎ (result ≡ Err NoMemory) → read ≡ bytes
same_bytes result read bytes ends (inl is) = cc
same_bytes result read bytes ends (inr is) = cc

-- the text of a program is refused only for want of memory
source_ends : NeverBoth → (text : List ℕ) (program : Program) (end : End) → IsSource text program → Sources text (Err end) → IsDone end
source_ends never_both text program (Source fault) source h = absurd (never_both text program fault source h)
source_ends never_both text program NoMemory source h = inr refl
source_ends never_both text program Done source h = absurd h
source_ends never_both text program Usage source h = absurd h
source_ends never_both text program (Schedule at rule) source h = absurd h
source_ends never_both text program (Rejected number why) source h = absurd h
source_ends never_both text program (Spent event) source h = absurd h
source_ends never_both text program (Arguments kind word) source h = absurd h
source_ends never_both text program ReadFault source h = absurd h
source_ends never_both text program WriteFault source h = absurd h
source_ends never_both text program (TooLong long) source h = absurd h

accepts_ends : NeverRejected → (program : Program) (bytes : List ℕ) (end : End) → IsDerivationOf program bytes → Accepts program bytes (Err end) → IsDone end
accepts_ends never program bytes (Rejected number why) derivation h = absurd (never program bytes number why derivation h)
accepts_ends never program bytes NoMemory derivation h = inr refl
accepts_ends never program bytes Done derivation h = absurd h
accepts_ends never program bytes Usage derivation h = absurd h
accepts_ends never program bytes (Schedule at rule) derivation h = absurd h
accepts_ends never program bytes (Source fault) derivation h = absurd h
accepts_ends never program bytes ReadFault derivation h = absurd h
accepts_ends never program bytes WriteFault derivation h = absurd h
accepts_ends never program bytes (TooLong text) derivation h = absurd h
accepts_ends never program bytes (Spent event) derivation h = absurd h
accepts_ends never program bytes (Arguments kind word) derivation h = absurd h

prints_ends : (line : List ℕ) (out : SinkSeen) (end : End) (printed : List ℕ) → ¬ Rose out.before out.after → Prints line out end printed → IsDone end
prints_ends line out Done printed calm h = inl refl
prints_ends line out WriteFault printed calm h = absurd (calm h.0)
prints_ends line out NoMemory printed calm h = absurd h
prints_ends line out Usage printed calm h = absurd h
prints_ends line out (Schedule at rule) printed calm h = absurd h
prints_ends line out (Source fault) printed calm h = absurd h
prints_ends line out (Rejected number why) printed calm h = absurd h
prints_ends line out (Spent event) printed calm h = absurd h
prints_ends line out (Arguments kind word) printed calm h = absurd h
prints_ends line out ReadFault printed calm h = absurd h
prints_ends line out (TooLong text) printed calm h = absurd h

-- the words for what is read of a text that is told
module _ (files : FilesSeen) (calm : ¬ Rose files.before files.after) (which : Which) (name text : List ℕ) (has : HasText files which name text) where
  reading_done : (end : End) → ReadsText which files name (Err end) → IsDone end
  reading_done end reads = inr (no_memory (Err end) end text refl (read_whole which files name text (Err end) has calm reads))

  is_read : (read : List ℕ) → ReadsText which files name (Ok read) → text ≡ read
  is_read read reads = sym (same_bytes (Ok read) read text refl (read_whole which files name text (Ok read) has calm reads))

module _ (laws : AreCertain) (files : FilesSeen) (out : SinkSeen) (calm : ¬ Rose files.before files.after) (calm_out : ¬ Rose out.before out.after) where
  check_done : (file text : List ℕ) (program : Program) (end : End) (printed : List ℕ) → HasText files which.Program file text → IsSource text program → LineEnds files out (Check file) end printed → IsDone end
  check_done file text program end printed has source (inl (reads, _)) = reading_done files calm which.Program file text has end reads
  check_done file text program end printed has source (inr (read, reads, inl (refuses, _))) =
      source_ends laws.never_both read program end (subst (λ (bytes : List ℕ). IsSource bytes program) (is_read files calm which.Program file text has read reads) source) refuses
  check_done file text program end printed has source (inr (read, reads, inr (found, _, prints))) = prints_ends (checked_line found) out end printed calm_out prints

  replay_done : (file derivation text steps : List ℕ) (program : Program) (end : End) (printed : List ℕ) → HasText files which.Program file text → HasText files which.Derivation derivation steps → IsSource text program → IsDerivationOf program steps → LineEnds files out (Replay file derivation) end printed → IsDone end
  replay_done file derivation text steps program end printed has has_steps source derives (inl (reads, _)) = reading_done files calm which.Program file text has end reads
  replay_done file derivation text steps program end printed has has_steps source derives (inr (read, reads, inl (refuses, _))) =
      source_ends laws.never_both read program end (subst (λ (bytes : List ℕ). IsSource bytes program) (is_read files calm which.Program file text has read reads) source) refuses
  replay_done file derivation text steps program end printed has has_steps source derives (inr (read, _, inr (found, _, inl (reads, _)))) = reading_done files calm which.Derivation derivation steps has_steps end reads
  replay_done file derivation text steps program end printed has has_steps source derives (inr (read, reads, inr (found, finds, inr (rows, rows_read, inl (accepts, _))))) =
      let here : IsSource read program = subst (λ (bytes : List ℕ). IsSource bytes program) (is_read files calm which.Program file text has read reads) source in
      let one : program ≡ found = laws.one_source read program found here finds in
      let derived : IsDerivationOf program rows = subst (IsDerivationOf program) (is_read files calm which.Derivation derivation steps has_steps rows rows_read) derives in
      accepts_ends laws.never_rejected found rows end (subst (λ (P : Program). IsDerivationOf P rows) one derived) accepts
  replay_done file derivation text steps program end printed has has_steps source derives (inr (read, _, inr (found, _, inr (rows, _, inr (n, _, prints))))) = prints_ends (accepted_line n) out end printed calm_out prints

  -- an end without a cause is none of reading where no count rose
  chance_done : (line : CommandLine) (end : End) (printed : List ℕ) → LineEnds files out line end printed → IsChance end → IsDone end
  chance_done line end printed ends (inl is) = absurd (calm (read_fault_rose files out line printed (subst (λ (e : End). LineEnds files out line e printed) is ends)))
  chance_done line end printed ends (inr is) = inr is

  module _ (file name : List ℕ) (words : List (List ℕ)) (budget : ℕ) (text : List ℕ) (P : Program) (source : IsSource text P) (call : ClosedCall) (v : Value) (calls : ℕ) (finds : IsCall P name words call) (gives : IsValueOfCall P call v calls) (within : calls ≤ budget) where
    eval_goes_done : (end : End) (printed : List ℕ) → (IsChance end → IsDone end) → EvalGoes out name words budget P end printed → IsDone end
    eval_goes_done end printed by_chance (inl (refuses, _)) = by_chance (call_found text P source name words laws.never_call_and_none call end finds refuses)
    eval_goes_done end printed by_chance (inr (other, found, inl (evaluates, _))) =
        by_chance (within_ends text P source name words laws.one_call laws.one_value_of_call call finds v calls gives other found budget end within evaluates)
    eval_goes_done end printed by_chance (inr (other, found, inr (done, _, inl (spells, _)))) = by_chance (unspelled (value_text P.names done.value) end spells)
    eval_goes_done end printed by_chance (inr (other, found, inr (done, _, inr (bytes, _, prints)))) = prints_ends (evaluated_by bytes done.calls) out end printed calm_out prints

    eval_done : (end : End) (printed : List ℕ) → HasText files which.Program file text → LineEnds files out (Eval file name words budget) end printed → IsDone end
    eval_done end printed has ends = either (program_read laws.one_source laws.never_both files out (Eval file name words budget) printed text P end has source ends)
      where
        either : IsChance end ⊎ Goes files out (Eval file name words budget) P end printed → IsDone end
        either (inl chance) = chance_done (Eval file name words budget) end printed ends chance
        either (inr goes) = eval_goes_done end printed (chance_done (Eval file name words budget) end printed ends) goes

  run_certain : RunsAreCertain
  run_certain = record { one_source = laws.one_source; never_both = laws.never_both; never_rejected = laws.never_rejected; schedules = laws.schedules }

  run_done : (file derivation schedule : List ℕ) (budget : ℕ) (text steps lines : List ℕ) (P : Program) (S : Recorded) (end : End) (printed : List ℕ) → HasText files which.Program file text → HasText files which.Derivation derivation steps → HasText files which.Schedule schedule lines
      → IsSource text P → IsDerivationOf P steps → IsSchedule P lines S → NoneIsAbove P S budget → LineEnds files out (Run file derivation schedule budget) end printed → IsDone end
  run_done file derivation schedule budget text steps lines P S end printed has has_steps has_lines source derived whole low ends =
      either (reaches run_certain files out file derivation schedule budget text steps lines P S end printed has_steps has_lines source derived whole (program_read laws.one_source laws.never_both files out (Run file derivation schedule budget) printed text P end has source ends))
    where
      either : IsChance end ⊎ RunsEvents P S budget out end printed → IsDone end
      either (inl chance) = chance_done (Run file derivation schedule budget) end printed ends chance
      either (inr runs) = events_done P S budget out end printed calm_out low runs

  line_done : (line : CommandLine) (end : End) (printed : List ℕ) → CanBeDone files line → LineEnds files out line end printed → IsDone end
  line_done _ end printed (checked {file = file} text program has source) ends = check_done file text program end printed has source ends
  line_done _ end printed (replayed {file = file} {derivation = derivation} text steps program has has_steps source derives) ends = replay_done file derivation text steps program end printed has has_steps source derives ends
  line_done _ end printed (evaluated {file = file} {name = name} {words = words} {budget = budget} text program call v calls has source finds gives within) ends =
      eval_done file name words budget text program source call v calls finds gives within end printed has ends
  line_done _ end printed (ran {file = file} {derivation = derivation} {schedule = schedule} {budget = budget} text steps lines program S has has_steps has_lines source derived whole low) ends =
      run_done file derivation schedule budget text steps lines program S end printed has has_steps has_lines source derived whole low ends

unread_done : (words : List (List ℕ)) (line : CommandLine) (end : End) → line_of words ≡ Some line → ReadsLine (line_of words) (Err end) → IsDone end
unread_done words line Usage is none = cc
unread_done words line (Schedule at rule) is h = absurd h
unread_done words line NoMemory is h = inr refl
unread_done words line Done is h = absurd h
unread_done words line (Source fault) is h = absurd h
unread_done words line (Rejected number why) is h = absurd h
unread_done words line (Spent event) is h = absurd h
unread_done words line (Arguments kind word) is h = absurd h
unread_done words line ReadFault is h = absurd h
unread_done words line WriteFault is h = absurd h
unread_done words line (TooLong text) is h = absurd h

allowed_done : AreCertain → (words : List (List ℕ)) (files : FilesSeen) (out err : SinkSeen) (kept : Option CommandLine) (end : End) (line : CommandLine) → NoneRose files out err → line_of words ≡ Some line → CanBeDone files line → Ends words files out kept end → IsDone end
allowed_done laws words files out err None end line calm is can ends = unread_done words line end is ends.0
allowed_done laws words files out err (Some kept) end line calm is can ends =
    let same : kept ≡ line = let both : Some kept ≡ Some line = sym ends.0 ∙ is in cc in
    line_done laws files out calm.files_rest calm.out_rests kept end ends.1.printed (subst (CanBeDone files) (sym same) can) ends.1.allowed

told_stays : (told : End) (err : SinkSeen) (end : End) → ¬ Rose err.before err.after → Tells told err end → end ≡ told
told_stays told err end calm (inl tells) = tells.0
told_stays told err end calm (inr tells) = absurd (calm tells.2)

-- a plain line whose work can be done ends Done where no count rose, but for want of memory
pub answer_done : AreCertain → (words : List (List ℕ)) (files : FilesSeen) (out err : SinkSeen) (outcome : Outcome) → IsAnswer words files out err outcome → IsComplete words files out err outcome.end
answer_done laws words files out err outcome answer line is can calm =
    subst IsDone (sym (told_stays answer.told err outcome.end calm.err_rests answer.tells)) (allowed_done laws words files out err outcome.line answer.told line calm is can answer.allowed)

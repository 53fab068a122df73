-- What an outcome shows: of its end, that the end was allowed; and so its cause, and what is true there.
use Rattle.std.proofs.Common.{◌≡◌, ℕ, ◌⊎◌, List, Option, Some, None, subst, sym, ◌∙◌, inl, inr}
use Rattle.px_world.specs.Faults.{Rose}
use Rattle.px_drive.specs.declared.outcome.CommandLine.{CommandLine}
use Rattle.px_drive.specs.declared.outcome.CommandLine.TheVariants.{Check, Replay, Eval, Run}
use Rattle.px_drive.specs.declared.outcome.End.{End}
use Rattle.px_drive.specs.declared.outcome.End.TheVariants.{Done, Usage, Source, Rejected, Schedule, Spent, ReadFault, WriteFault, NoMemory, TooLong, Arguments}
use Rattle.px_drive.specs.declared.outcome.SourceFault.TheVariants.{Lex, Parse, Scope, Typing, Descent}
use Rattle.px_drive.specs.declared.outcome.Outcome.{Outcome}
use Rattle.px_drive.specs.Answers.{Ends, Tells, IsAnswer}
use Rattle.px_drive.specs.Headline.{Headline, TellsFirstBroken}
use Rattle.px_drive.specs.Laws.{AcceptedIsTrue, ScopeFaultIsFirst}
use Rattle.px_drive.specs.Seen.{FilesSeen, SinkSeen}
use Rattle.px_drive.proofs.RunCauses.{done_is_run_law}
use Rattle.px_drive.proofs.Causes.{done_is_checked, done_is_replayed, done_is_evaluated, source_is_faulty, read_fault_rose, write_fault_rose}

-- an end that is no fault of writing was allowed
allowed : (words : List (List ℕ)) (files : FilesSeen) (out err : SinkSeen) (outcome : Outcome) (end : End) → IsAnswer words files out err outcome → outcome.end ≡ end → ¬ (WriteFault ≡ end)
    → Ends words files out outcome.line end
allowed words files out err outcome end answer is other = by_telling answer.tells
  where
    by_telling : Tells answer.told err outcome.end → Ends words files out outcome.line end
    by_telling (inl tells) = subst (λ (e : End). Ends words files out outcome.line e) (sym tells.0 ∙ is) answer.allowed
    by_telling (inr tells) = absurd (other (sym tells.1 ∙ is))

of_line : (words : List (List ℕ)) (files : FilesSeen) (out : SinkSeen) (line : Option CommandLine) → AcceptedIsTrue → Ends words files out line Done → Headline files.bytes line
of_line words files out None law ends = ends.0
of_line words files out (Some (Check file)) law ends =
    let run = done_is_checked files out file ends.1.printed ends.1.allowed in
    record { text = run.text; program = run.program; text_is = run.text_is; is_source = run.is_source }
of_line words files out (Some (Replay file derivation)) law ends =
    let run = done_is_replayed files out file derivation ends.1.printed ends.1.allowed in
    let true_of = law run.text run.steps run.program run.is_source run.is_derivation in
    record { text = run.text; program = run.program; text_is = run.text_is; is_source = run.is_source; holds = true_of.0; itself = true_of.1 }
of_line words files out (Some (Eval file name values budget)) law ends =
    let run = done_is_evaluated files out file name values budget ends.1.printed ends.1.allowed in
    record {
      text = run.text;
      program = run.program;
      call = run.call;
      value = run.value;
      calls = run.calls;
      text_is = run.text_is;
      is_source = run.is_source;
      is_call = run.is_call;
      is_value = run.is_value;
      within = run.within;
    }
of_line words files out (Some (Run file derivation schedule budget)) law ends =
    let run = done_is_run_law files out file derivation schedule budget ends.1.printed ends.1.allowed in
    let texts = run.2 in
    let true_of = law texts.text texts.steps run.0 texts.is_source texts.is_derivation in
    record { text = texts.text; program = run.0; text_is = texts.text_is; is_source = texts.is_source; holds = true_of.0; itself = true_of.1 }

-- where a line ends Done, its text is a program, and what was accepted is true
pub headline : (words : List (List ℕ)) (files : FilesSeen) (out err : SinkSeen) (outcome : Outcome) → IsAnswer words files out err outcome → AcceptedIsTrue → outcome.end ≡ Done → Headline files.bytes outcome.line
headline words files out err outcome answer law done = of_line words files out outcome.line law (allowed words files out err outcome Done answer done (λ (e : WriteFault ≡ Done). cc))

broken_of_line : (words : List (List ℕ)) (files : FilesSeen) (out : SinkSeen) (line : Option CommandLine) (end : End) → ScopeFaultIsFirst → Ends words files out line end → TellsFirstBroken files.bytes line end
broken_of_line words files out (Some line) (Source (Scope kind at)) law ends =
    let faulty = source_is_faulty files out line ends.1.printed (Scope kind at) ends.1.allowed in
    record { text = faulty.text; text_is = faulty.text_is; is_first = law faulty.text kind at faulty.is_fault }
broken_of_line words files out None (Source (Scope kind at)) law ends = absurd ends.0
broken_of_line words files out line (Source (Lex at)) law ends = tt
broken_of_line words files out line (Source (Parse at)) law ends = tt
broken_of_line words files out line (Source (Typing kind at)) law ends = tt
broken_of_line words files out line (Source (Descent def call)) law ends = tt
broken_of_line words files out line Done law ends = tt
broken_of_line words files out line Usage law ends = tt
broken_of_line words files out line (Schedule at rule) law ends = tt
broken_of_line words files out line (Rejected number why) law ends = tt
broken_of_line words files out line (Spent event) law ends = tt
broken_of_line words files out line (Arguments kind word) law ends = tt
broken_of_line words files out line ReadFault law ends = tt
broken_of_line words files out line WriteFault law ends = tt
broken_of_line words files out line NoMemory law ends = tt
broken_of_line words files out line (TooLong text) law ends = tt

-- where a line ends with a fault of scope, it is the first by byte
pub first_broken : (words : List (List ℕ)) (files : FilesSeen) (out err : SinkSeen) (outcome : Outcome) → IsAnswer words files out err outcome → ScopeFaultIsFirst → TellsFirstBroken files.bytes outcome.line outcome.end
first_broken words files out err outcome answer law = by_telling outcome.end answer.tells
  where
    by_telling : (end : End) → Tells answer.told err end → TellsFirstBroken files.bytes outcome.line end
    by_telling end (inl tells) = subst (TellsFirstBroken files.bytes outcome.line) (sym tells.0) (broken_of_line words files out outcome.line answer.told law answer.allowed)
    by_telling end (inr tells) = subst (TellsFirstBroken files.bytes outcome.line) (sym tells.1) tt

read_of_line : (words : List (List ℕ)) (files : FilesSeen) (out : SinkSeen) (line : Option CommandLine) → Ends words files out line ReadFault → Rose files.before files.after
read_of_line words files out None ends = absurd ends.0
read_of_line words files out (Some line) ends = read_fault_rose files out line ends.1.printed ends.1.allowed

-- a fault of reading has its cause
pub read_fault : (words : List (List ℕ)) (files : FilesSeen) (out err : SinkSeen) (outcome : Outcome) → IsAnswer words files out err outcome → outcome.end ≡ ReadFault → Rose files.before files.after
read_fault words files out err outcome answer is = read_of_line words files out outcome.line (allowed words files out err outcome ReadFault answer is (λ (e : WriteFault ≡ ReadFault). cc))

write_of_line : (words : List (List ℕ)) (files : FilesSeen) (out : SinkSeen) (line : Option CommandLine) → Ends words files out line WriteFault → Rose out.before out.after
write_of_line words files out None ends = absurd ends.0
write_of_line words files out (Some line) ends = write_fault_rose files out line ends.1.printed ends.1.allowed

-- a fault of writing has its cause
pub write_fault : (words : List (List ℕ)) (files : FilesSeen) (out err : SinkSeen) (outcome : Outcome) → IsAnswer words files out err outcome → outcome.end ≡ WriteFault
    → Rose out.before out.after ⊎ Rose err.before err.after
write_fault words files out err outcome answer is = by_telling answer.tells
  where
    by_telling : Tells answer.told err outcome.end → Rose out.before out.after ⊎ Rose err.before err.after
    by_telling (inl tells) = inl (write_of_line words files out outcome.line (subst (λ (e : End). Ends words files out outcome.line e) (sym tells.0 ∙ is) answer.allowed))
    by_telling (inr tells) = inr tells.2

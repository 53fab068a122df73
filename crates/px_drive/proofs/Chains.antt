-- The stages of a command: what a `?` passes on, and what a later stage shows of the whole call.
use Rattle.std.proofs.Common.{◌≡◌, ◌∙◌, ◌≤◌, ℕ, List, Option, Result, Ok, Err, IsErrAnd, arith, subst, sym}
use Rattle.px_terms.specs.declared.program.Program.{Program}
use Rattle.px_world.specs.declared.files.Files as files
use Rattle.px_drive.specs.declared.outcome.CommandLine.{CommandLine}
use Rattle.px_drive.specs.declared.outcome.Which.{Which}
use Rattle.px_drive.specs.declared.outcome.End.{End}
use Rattle.px_drive.specs.declared.outcome.End.TheVariants.{Done, Usage, Source, Rejected, Schedule, Spent, ReadFault, WriteFault, NoMemory, TooLong, Arguments}
use Rattle.px_drive.specs.Lines.{ReadsLine}
use Rattle.px_drive.specs.Seen.{FilesSeen, SinkSeen, files_seen, KeepsFiles}
use Rattle.px_drive.specs.Ends.{ReadsText, ReadsSource, Runs, end_of}

-- a `?` hands an end on as it is
pub passed_on : {files : FilesSeen} {out : SinkSeen} {line : CommandLine} (result : Result (Unit {0}) End) (end : End) → IsErrAnd result (λ e. e ≡ end) → Runs files out line end → Runs files out line (end_of result)
passed_on (Ok done) end is runs = absurd is
passed_on {files} {out} {line} (Err e) end is runs = subst (Runs files out line) (sym is) runs

-- a word that found no memory leaves the line unread
pub no_line : (plain : Option CommandLine) (result : Result CommandLine End) → IsErrAnd result (λ end. end ≡ NoMemory) → ReadsLine plain result
no_line plain (Ok line) is = absurd is
no_line plain (Err end) is = subst (λ (e : End). ReadsLine plain (Err e)) (sym is) tt

-- a later text is read from the files as they stood when the call began
pub read_later : {F : Type 0} (device : files.Ghosts F) (old mid new : F) (text : Which) (name : List ℕ) (result : Result (List ℕ) End) → KeepsFiles device old mid
    → ReadsText text (files_seen device mid new) name result → ReadsText text (files_seen device old new) name result
read_later {F} device old mid new text name result keeps reads = by_result result
    (subst (λ (bytes : List ℕ → Option (List ℕ)). ReadsText text (record { bytes = bytes; opened = device.is_open new; left = device.rest new; before = device.faults mid; after = device.faults new }) name result) keeps.texts reads)
  where
    by_result : (r : Result (List ℕ) End) → ReadsText text (record { bytes = device.bytes_of old; opened = device.is_open new; left = device.rest new; before = device.faults mid; after = device.faults new }) name r
        → ReadsText text (files_seen device old new) name r
    by_result (Ok bytes) is = is
    by_result (Err (TooLong long)) is = is
    by_result (Err ReadFault) (rose, came) = (let later : device.faults old ≤ device.faults mid = keeps.later in omega arith, came)
    by_result (Err NoMemory) is = is
    by_result (Err Done) is = is
    by_result (Err Usage) is = is
    by_result (Err (Schedule at rule)) is = is
    by_result (Err (Source fault)) is = is
    by_result (Err (Rejected number why)) is = is
    by_result (Err (Spent event)) is = is
    by_result (Err (Arguments kind word)) is = is
    by_result (Err WriteFault) is = is

-- what two calls keep, both of them keep
pub keeps_on : {F : Type 0} (device : files.Ghosts F) (old mid new : F) → KeepsFiles device old mid → KeepsFiles device mid new → KeepsFiles device old new
keeps_on device old mid new first second = record {
  texts = second.texts ∙ first.texts;
  names = second.names ∙ first.names;
  later = let one : device.faults old ≤ device.faults mid = first.later in let two : device.faults mid ≤ device.faults new = second.later in omega (arith, one, two);
}

-- a `?` hands the refusal of a program on
pub refused_on : {F : Type 0} (device : files.Ghosts F) (old new : F) (name : List ℕ) (result : Result Program End) (end : End) → IsErrAnd result (λ e. e ≡ end) → ReadsSource (files_seen device old new) name (Err end) → ReadsSource (files_seen device old new) name result
refused_on device old new name (Ok program) end is h = absurd is
refused_on device old new name (Err e) end is h = subst (λ (e : End). ReadsSource (files_seen device old new) name (Err e)) (sym is) h

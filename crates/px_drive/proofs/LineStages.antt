-- What a line does where its program is refused, and where it was read.
use Rattle.std.proofs.Common.{◌≡◌, ℕ, List, [], Result, Ok, Err, IsErrAnd, inl, inr, refl}
use Rattle.std.specs.Io.KnownBytes.{Appends}
use Rattle.px_terms.specs.declared.program.Program.{Program}
use Rattle.px_drive.specs.declared.outcome.CommandLine.{CommandLine}
use Rattle.px_drive.specs.declared.outcome.CommandLine.TheVariants.{Check, Replay, Eval, Run}
use Rattle.px_drive.specs.declared.outcome.End.{End}
use Rattle.px_drive.specs.declared.outcome.End.TheVariants.{Done}
use Rattle.px_drive.specs.Lines.{program_of}
use Rattle.px_drive.specs.Seen.{FilesSeen, SinkSeen}
use Rattle.px_drive.specs.Ends.{ReadsSource, LineEnds, Runs, end_of}
use Rattle.px_drive.proofs.Chains.{passed_on}
use Rattle.px_drive.proofs.Causes.{Goes}

refused : (files : FilesSeen) (out : SinkSeen) (line : CommandLine) (end : End) → ReadsSource files (program_of line) (Err end) → LineEnds files out line end []
refused files out (Check file) end (inl reads) = inl (reads, refl)
refused files out (Check file) end (inr (text, reads, source)) = inr (text, reads, inl (source, refl))
refused files out (Replay file derivation) end (inl reads) = inl (reads, refl)
refused files out (Replay file derivation) end (inr (text, reads, source)) = inr (text, reads, inl (source, refl))
refused files out (Eval file name words budget) end (inl reads) = inl (reads, refl)
refused files out (Eval file name words budget) end (inr (text, reads, source)) = inr (text, reads, inl (source, refl))
refused files out (Run file derivation schedule budget) end (inl reads) = inl (reads, refl)
refused files out (Run file derivation schedule budget) end (inr (text, reads, source)) = inr (text, reads, inl (source, refl))

read : (files : FilesSeen) (out : SinkSeen) (line : CommandLine) (program : Program) (end : End) (printed : List ℕ) → ReadsSource files (program_of line) (Ok program) → Goes files out line program end printed → LineEnds files out line end printed
read files out (Check file) program end printed (text, reads, source) goes = inr (text, reads, inr (program, source, goes))
read files out (Replay file derivation) program end printed (text, reads, source) goes = inr (text, reads, inr (program, source, goes))
read files out (Eval file name words budget) program end printed (text, reads, source) goes = inr (text, reads, inr (program, source, goes))
read files out (Run file derivation schedule budget) program end printed (text, reads, source) goes = inr (text, reads, inr (program, source, goes))

-- a line whose program is refused
pub runs_refused : {files : FilesSeen} {out : SinkSeen} {line : CommandLine} (result : Result (Unit {0}) End) (end : End) → IsErrAnd result (λ e. e ≡ end) → ReadsSource files (program_of line) (Err end) → Appends out.old out.new [] → Runs files out line (end_of result)
runs_refused {files} {out} {line} result end is reads wrote = passed_on result end is (record { printed = []; allowed = refused files out line end reads; wrote = wrote })

-- a line that ends after its program was read
pub runs_ended : {files : FilesSeen} {out : SinkSeen} {line : CommandLine} (result : Result (Unit {0}) End) (end : End) → IsErrAnd result (λ e. e ≡ end) → (printed : List ℕ) (program : Program) → ReadsSource files (program_of line) (Ok program)
    → Goes files out line program end printed → Appends out.old out.new printed → Runs files out line (end_of result)
runs_ended {files} {out} {line} result end is printed program reads goes wrote = passed_on result end is (record { printed = printed; allowed = read files out line program end printed reads goes; wrote = wrote })

-- a line that ends as it goes on
pub runs_on : {files : FilesSeen} {out : SinkSeen} {line : CommandLine} (end : End) (printed : List ℕ) (program : Program) → ReadsSource files (program_of line) (Ok program) → Goes files out line program end printed → Appends out.old out.new printed → Runs files out line end
runs_on {files} {out} {line} end printed program reads goes wrote = record { printed = printed; allowed = read files out line program end printed reads goes; wrote = wrote }

-- a line that is done
pub runs_done : {files : FilesSeen} {out : SinkSeen} {line : CommandLine} (printed : List ℕ) (program : Program) → ReadsSource files (program_of line) (Ok program) → Goes files out line program Done printed → Appends out.old out.new printed → Runs files out line Done
runs_done {files} {out} {line} printed program reads goes wrote = record { printed = printed; allowed = read files out line program Done printed reads goes; wrote = wrote }

-- How a line ends on a told text that is a program, within its limit: by chance, or as it goes on with that program.
use Rattle.std.proofs.Common.{◌≡◌, ℕ, ◌⊎◌, List, Ok, Err, inl, inr, refl, subst, sym}
use Rattle.px_terms.specs.declared.program.Program.{Program}
use Rattle.px_drive.specs.declared.outcome.CommandLine.{CommandLine}
use Rattle.px_drive.specs.declared.outcome.CommandLine.TheVariants.{Check, Replay, Eval, Run}
use Rattle.px_drive.specs.declared.outcome.Which.{Which}
use Rattle.px_drive.specs.declared.outcome.Which.TheVariants as which
use Rattle.px_drive.specs.declared.outcome.End.{End}
use Rattle.px_drive.specs.declared.outcome.End.TheVariants.{Done, Usage, Source, Rejected, Schedule, Spent, ReadFault, WriteFault, NoMemory, TooLong, Arguments}
use Rattle.px_drive.specs.Lines.{program_of}
use Rattle.px_drive.specs.Seen.{FilesSeen, SinkSeen}
use Rattle.px_drive.specs.Ends.{limit_of, ReadsText, AndThen, LineEnds}
use Rattle.px_drive.specs.Sources.{IsSource, Sources}
use Rattle.px_drive.specs.Completeness.{HasText}
use Rattle.px_drive.specs.Laws.{OneSource, NeverBoth}
use Rattle.px_drive.proofs.Causes.{Goes, longer, told_is, not_longer}

-- the end has no cause in the texts
abbrev pub IsChance : End → Type 0
IsChance end = (end ≡ ReadFault) ⊎ (end ≡ NoMemory)

-- a told text within its limit is not read only by a fault or for want of memory
pub unread_ends : (text : Which) (files : FilesSeen) (name bytes : List ℕ) (end : End) → HasText files text name bytes → ReadsText text files name (Err end) → IsChance end
unread_ends text files name bytes (TooLong long) has (is, (came, consumed, above)) = absurd (not_longer (files.bytes name) bytes (limit_of text) has.told has.fits (longer (files.bytes name) files.left came (limit_of text) consumed above))
unread_ends text files name bytes ReadFault has h = inl refl
unread_ends text files name bytes NoMemory has h = inr refl
unread_ends text files name bytes Done has h = absurd h
unread_ends text files name bytes Usage has h = absurd h
unread_ends text files name bytes (Schedule at rule) has h = absurd h
unread_ends text files name bytes (Source fault) has h = absurd h
unread_ends text files name bytes (Rejected number why) has h = absurd h
unread_ends text files name bytes (Spent event) has h = absurd h
unread_ends text files name bytes (Arguments kind word) has h = absurd h
unread_ends text files name bytes WriteFault has h = absurd h

-- the text of a program is refused only for want of memory
refused_ends : NeverBoth → (text : List ℕ) (P : Program) (end : End) → IsSource text P → Sources text (Err end) → IsChance end
refused_ends never_both text P (Source fault) source h = absurd (never_both text P fault source h)
refused_ends never_both text P NoMemory source h = inr refl
refused_ends never_both text P Done source h = absurd h
refused_ends never_both text P Usage source h = absurd h
refused_ends never_both text P (Schedule at rule) source h = absurd h
refused_ends never_both text P (Rejected number why) source h = absurd h
refused_ends never_both text P (Spent event) source h = absurd h
refused_ends never_both text P (Arguments kind word) source h = absurd h
refused_ends never_both text P ReadFault source h = absurd h
refused_ends never_both text P WriteFault source h = absurd h
refused_ends never_both text P (TooLong long) source h = absurd h

module _ (one_source : OneSource) (never_both : NeverBoth) (files : FilesSeen) (out : SinkSeen) (line : CommandLine) (printed text : List ℕ) (P : Program) (end : End) (has : HasText files which.Program (program_of line) text) (source : IsSource text P) where
  here : (read : List ℕ) → ReadsText which.Program files (program_of line) (Ok read) → IsSource read P
  here read reads = subst (λ (bytes : List ℕ). IsSource bytes P) (sym (told_is (files.bytes (program_of line)) text read has.told reads.0)) source

  from_start : AndThen (ReadsText which.Program files (program_of line)) (λ read. AndThen (Sources read) (λ program. Goes files out line program)) end printed → IsChance end ⊎ Goes files out line P end printed
  from_start (inl (reads, _)) = inl (unread_ends which.Program files (program_of line) text end has reads)
  from_start (inr (read, reads, inl (refuses, _))) = inl (refused_ends never_both read P end (here read reads) refuses)
  from_start (inr (read, reads, inr (found, finds, rest))) =
      inr (subst (λ (Q : Program). Goes files out line Q end printed) (one_source read found P finds (here read reads)) rest)

-- the program is read, and the rest is done with it
pub program_read : OneSource → NeverBoth → (files : FilesSeen) (out : SinkSeen) (line : CommandLine) (printed text : List ℕ) (P : Program) (end : End) → HasText files which.Program (program_of line) text → IsSource text P
    → LineEnds files out line end printed → IsChance end ⊎ Goes files out line P end printed
program_read one_source never_both files out (Check file) printed text P end has source h = from_start one_source never_both files out (Check file) printed text P end has source h
program_read one_source never_both files out (Replay file derivation) printed text P end has source h = from_start one_source never_both files out (Replay file derivation) printed text P end has source h
program_read one_source never_both files out (Eval file name words budget) printed text P end has source h = from_start one_source never_both files out (Eval file name words budget) printed text P end has source h
program_read one_source never_both files out (Run file derivation schedule budget) printed text P end has source h = from_start one_source never_both files out (Run file derivation schedule budget) printed text P end has source h

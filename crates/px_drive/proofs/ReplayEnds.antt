-- How `replay` ends on a told text that is a program, within its limit: a told derivation that is rejected, or too long.
use Rattle.std.proofs.Common.{◌≡◌, ℕ, ◌⊎◌, List, Err, ◌∙◌, inl, inr, refl, ap, subst, sym}
use Rattle.px_terms.specs.declared.program.Program.{Program}
use Rattle.px_replay.specs.declared.ends.Why.{Why}
use Rattle.px_drive.specs.declared.outcome.CommandLine.TheVariants.{Replay}
use Rattle.px_drive.specs.declared.outcome.Which.{Which}
use Rattle.px_drive.specs.declared.outcome.Which.TheVariants as which
use Rattle.px_drive.specs.declared.outcome.End.{End}
use Rattle.px_drive.specs.declared.outcome.End.TheVariants.{Done, Usage, Source, Rejected, Schedule, Spent, ReadFault, WriteFault, NoMemory, TooLong, Arguments}
use Rattle.px_drive.specs.Seen.{FilesSeen, SinkSeen}
use Rattle.px_drive.specs.Messages.{accepted_line}
use Rattle.px_drive.specs.Ends.{limit_of, ReadsText, Accepts, Prints, AndThen}
use Rattle.px_drive.specs.Sources.{IsSource}
use Rattle.px_drive.specs.Derivations.{IsRejected}
use Rattle.px_drive.specs.Completeness.{HasText}
use Rattle.px_drive.specs.Laws.{OneSource, NeverBoth, NeverRejected, OneRejection, RefusedIsRejected, LongDerivationIsTooLong}
use Rattle.px_drive.proofs.Causes.{Goes, told_is, not_whole}
use Rattle.px_drive.proofs.TextEnds.{IsChance, unread_ends, program_read}

-- the one refusal of bytes that are rejected
pub accepts_ends : OneRejection → (source : List ℕ) (P : Program) → IsSource source P → (bytes : List ℕ) (number : ℕ) (why : Why) (end : End) → IsRejected P bytes number why → Accepts P bytes (Err end) → (end ≡ Rejected number why) ⊎ IsChance end
accepts_ends one source P is bytes number why (Rejected line reason) rejected h =
    let same = one source P is bytes line number reason why h rejected in
    inl (ap (λ (n : ℕ). Rejected n reason) same.0 ∙ ap (λ (w : Why). Rejected number w) same.1)
accepts_ends one source P is bytes number why NoMemory rejected h = inr (inr refl)
accepts_ends one source P is bytes number why Done rejected h = absurd h
accepts_ends one source P is bytes number why Usage rejected h = absurd h
accepts_ends one source P is bytes number why (Schedule at rule) rejected h = absurd h
accepts_ends one source P is bytes number why (Source fault) rejected h = absurd h
accepts_ends one source P is bytes number why ReadFault rejected h = absurd h
accepts_ends one source P is bytes number why WriteFault rejected h = absurd h
accepts_ends one source P is bytes number why (TooLong long) rejected h = absurd h
accepts_ends one source P is bytes number why (Spent event) rejected h = absurd h
accepts_ends one source P is bytes number why (Arguments kind word) rejected h = absurd h

-- after the program was read, a told derivation that is rejected is refused for that
rejected_ends : NeverRejected → OneRejection → (files : FilesSeen) (out : SinkSeen) (file derivation printed source steps : List ℕ) (P : Program) (number : ℕ) (why : Why) (end : End) → IsSource source P
    → HasText files which.Derivation derivation steps → IsRejected P steps number why → Goes files out (Replay file derivation) P end printed → (end ≡ Rejected number why) ⊎ IsChance end
rejected_ends never one files out file derivation printed source steps P number why end is has rejected (inl (reads, _)) = inr (unread_ends which.Derivation files derivation steps end has reads)
rejected_ends never one files out file derivation printed source steps P number why end is has rejected (inr (bytes, reads, rest)) = there rest
  where
    told : IsRejected P bytes number why
    told = subst (λ (bytes : List ℕ). IsRejected P bytes number why) (sym (told_is (files.bytes derivation) steps bytes has.told reads.0)) rejected

    there : AndThen (Accepts P bytes) (λ n. Prints (accepted_line n) out) end printed → (end ≡ Rejected number why) ⊎ IsChance end
    there (inl (refuses, _)) = accepts_ends one source P is bytes number why end told refuses
    there (inr (n, (derived, _), _)) = absurd (never P bytes number why derived told)

pub refused_is_rejected_law : OneSource → NeverBoth → NeverRejected → OneRejection → RefusedIsRejected
refused_is_rejected_law one_source never_both never one files out file derivation printed text steps P number why end has source has_steps rejected ends =
    either (program_read one_source never_both files out (Replay file derivation) printed text P end has source ends)
  where
    either : IsChance end ⊎ Goes files out (Replay file derivation) P end printed → (end ≡ Rejected number why) ⊎ IsChance end
    either (inl chance) = inr chance
    either (inr goes) = rejected_ends never one files out file derivation printed text steps P number why end source has_steps rejected goes

-- a told text over its limit is too long, but by a fault or for want of memory
pub long_ends : (text : Which) (files : FilesSeen) (name : List ℕ) (end : End) → ReadsText text files name (Err end) → (end ≡ TooLong text) ⊎ IsChance end
long_ends text files name (TooLong long) (is, _) = inl (ap TooLong is)
long_ends text files name ReadFault h = inr (inl refl)
long_ends text files name NoMemory h = inr (inr refl)
long_ends text files name Done h = absurd h
long_ends text files name Usage h = absurd h
long_ends text files name (Schedule at rule) h = absurd h
long_ends text files name (Source fault) h = absurd h
long_ends text files name (Rejected number why) h = absurd h
long_ends text files name (Spent event) h = absurd h
long_ends text files name (Arguments kind word) h = absurd h
long_ends text files name WriteFault h = absurd h

pub long_derivation_is_too_long_law : OneSource → NeverBoth → LongDerivationIsTooLong
long_derivation_is_too_long_law one_source never_both files out file derivation printed text bytes P end has source known above ends =
    either (program_read one_source never_both files out (Replay file derivation) printed text P end has source ends)
  where
    either : IsChance end ⊎ Goes files out (Replay file derivation) P end printed → (end ≡ TooLong which.Derivation) ⊎ IsChance end
    either (inl chance) = inr chance
    either (inr (inl (reads, _))) = long_ends which.Derivation files derivation end reads
    either (inr (inr (read, reads, _))) = absurd (not_whole (files.bytes derivation) bytes read (limit_of which.Derivation) known above reads.0 reads.1)

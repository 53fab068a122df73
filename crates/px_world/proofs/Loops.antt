-- What the loops that read a whole text and write all bytes keep.
use Rattle.std.proofs.Common.{◌≡◌, ℕ, ◌+◌, ◌≤◌, List, ◌++◌, length, take, drop, Option, Bool, IsTrue, subst, sym}
use Rattle.std.specs.Io.KnownBytes.{Appends, Consumes}
use Rattle.std.proofs.KnownBytes.{Appends-trans}
use Rattle.std.proofs.Math.Seq.{take-add}
use Rattle.std.proofs.Common.{◌<◌, min, [], Some, ap, ◌∙◌, arith, take-append-drop}
use Rattle.std.proofs.lemmas.List.{drop-drop, drop_all}

-- the first bytes, up to `at`, were written, and the count of faults did not fall
pub record WroteFront (old now : Option (List ℕ)) (before after : ℕ) (bytes : List ℕ) (at : ℕ) : Type 0 where
  pub in_range : at ≤ length bytes
  pub front : Appends old now (take at bytes)
  pub later : before ≤ after

-- the next bytes after the first are written
pub Appends-more : (old mid new : Option (List ℕ)) (bytes : List ℕ) (at n : ℕ) → Appends old mid (take at bytes) → Appends mid new (take n (drop at bytes)) → Appends old new (take (at + n) bytes)
Appends-more old mid new bytes at n first next =
    subst (Appends old new) (sym (take-add at n bytes)) (Appends-trans old mid new (take at bytes) (take n (drop at bytes)) first next)

-- the bytes so far came from the front of the text, and are within the limit
pub record ReadFront (known left : Option (List ℕ)) (is_open : Bool) (limit : ℕ) (bytes : List ℕ) : Type 0 where
  pub opened : IsTrue is_open
  pub came : Consumes known left bytes
  pub fits : length bytes ≤ limit

-- the next bytes of a text that is open
pub Consumes-next : (bytes rest : List ℕ) (at piece count : ℕ) (old new : List ℕ) → 0 < piece → length new ≡ length old → rest ≡ drop at bytes
    → count ≡ min piece (min (length old) (length rest)) → take count new ≡ take count rest
    → Consumes (Some (drop at bytes)) (Some (drop (at + count) bytes)) (take count new) × (count ≡ 0 → 0 < length new → drop (at + count) bytes ≡ [])
Consumes-next bytes rest at piece count old new some same begins is front =
    let after : drop count rest ≡ drop (at + count) bytes = ap (drop count) begins ∙ drop-drop count at bytes in (
      sym begins ∙ sym (take-append-drop count rest) ∙ ap (λ l. l ++ drop count rest) (sym front) ∙ ap (λ l. take count new ++ l) after,
      λ none room. sym after ∙ drop_all count rest (omega arith),
    )

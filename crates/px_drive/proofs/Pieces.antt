-- Lines that are written in pieces.
use Rattle.std.proofs.Common.{◌≡◌, ◌≤◌, ◌<◌, ◌+◌, ℕ, List, ◌++◌, length, take, drop, get_or, Option, Result, Ok, Err, OnOk, OnErr, Bor, arith, subst, sym, ◌∙◌, ap, length-append, take-append-drop, drop-cons, suc}
use Rattle.std.proofs.lemmas.List.{take-append-le}
use Rattle.std.proofs.lemmas.Grind.{flat_map-append}
use Rattle.std.proofs.Math.Seq.{take-append-add}
use Rattle.std.proofs.KnownBytes.{Appends-trans}
use Rattle.std.specs.Io.KnownBytes.{Appends}
use Rattle.px_world.specs.declared.faults.WriteFault.{WriteFault}
use Rattle.px_world.specs.Faults.{Rose}
use Rattle.px_world.specs.Known.{AppendsPrefix}
use Rattle.px_drive.specs.Seen.{SinkSeen, Writes}
use Rattle.px_drive.specs.Messages.{bytes_of_all}

-- what a call that writes bytes says of each answer is what it says of its result
pub writes_of : (bytes : List ℕ) (sink : SinkSeen) (result : Result (Unit {0}) WriteFault) → OnOk result (Appends sink.old sink.new bytes) → OnErr result (AppendsPrefix sink.old sink.new bytes)
    → OnErr result (Rose sink.before sink.after) → Writes bytes sink result
writes_of bytes sink (Ok done) whole front rose = whole
writes_of bytes sink (Err fault) whole front rose = (front, rose)

-- these pieces were written, and the count of faults did not fall
pub record WroteSome (old now : Option (List ℕ)) (before after : ℕ) (pieces : List (Bor (List ℕ))) : Type 0 where
  pub wrote : Appends old now (bytes_of_all pieces)
  pub later : before ≤ after

-- a front of the first bytes is a front of all
pub AppendsPrefix-first : (old new : Option (List ℕ)) (first rest : List ℕ) → AppendsPrefix old new first → AppendsPrefix old new (first ++ rest)
AppendsPrefix-first old new first rest (n, fits, front) =
    (n, omega (arith, length-append first rest), subst (Appends old new) (sym (take-append-le n first rest fits)) front)

-- after the first bytes, a front of the rest is a front of all
pub AppendsPrefix-rest : (old mid new : Option (List ℕ)) (first rest : List ℕ) → Appends old mid first → AppendsPrefix mid new rest → AppendsPrefix old new (first ++ rest)
AppendsPrefix-rest old mid new first rest whole (n, fits, front) = (
  length first + n,
  omega (arith, length-append first rest),
  subst (Appends old new) (sym (take-append-add first rest n)) (Appends-trans old mid new first (take n rest) whole front),
)

-- the pieces up to one, that piece, and the others
pub bytes_of_all-at : (pieces : List (Bor (List ℕ))) (i : ℕ) (piece : Bor (List ℕ)) → i < length pieces
    → bytes_of_all pieces ≡ bytes_of_all (take i pieces) ++ ((get_or pieces i piece).now ++ bytes_of_all (drop (suc i) pieces))
bytes_of_all-at pieces i piece in_range =
    ap bytes_of_all (sym (take-append-drop i pieces)) ∙ flat_map-append (λ (p : Bor (List ℕ)). p.now) (take i pieces) (drop i pieces)
    ∙ ap (λ rest. bytes_of_all (take i pieces) ++ bytes_of_all rest) (drop-cons pieces i piece in_range)

-- where a piece was written in part, a front of all was written
pub AppendsPrefix-at : (old mid new : Option (List ℕ)) (pieces : List (Bor (List ℕ))) (i : ℕ) (piece : Bor (List ℕ)) → i < length pieces
    → Appends old mid (bytes_of_all (take i pieces)) → AppendsPrefix mid new (get_or pieces i piece).now → AppendsPrefix old new (bytes_of_all pieces)
AppendsPrefix-at old mid new pieces i piece in_range before front =
    subst (AppendsPrefix old new) (sym (bytes_of_all-at pieces i piece in_range))
    (AppendsPrefix-rest old mid new _ _ before (AppendsPrefix-first mid new (get_or pieces i piece).now (bytes_of_all (drop (suc i) pieces)) front))

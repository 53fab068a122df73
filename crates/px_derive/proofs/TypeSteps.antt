-- What reading a type finds, at each way out of its function.
use Rattle.std.proofs.Common.{◌≡◌, ℕ, zero, suc, ◌-◌, ◌<◌, true, false, List, Some, None, refl, arith, codes}
use Rattle.std.specs.Str.{bytes_eq}
use Rattle.px_base.specs.declared.names.Names.{Names}
use Rattle.px_terms.specs.declared.types.Ty.TheVariants as ty
use Rattle.px_derive.specs.Readers.{nothing, pure, bind, past, after, choice}
use Rattle.px_derive.specs.Reading.{small_at, word_at, datatype_at, ty_at}
use Rattle.px_derive.specs.Gives.{Fails}
use Rattle.px_derive.specs.declared.line_end.LineEnd.{LineEnd}
use Rattle.px_derive.specs.declared.line_end.LineEnd.TheVariants.{Form, NoMemory}

pub no_room : (names : Names) (room : ℕ) (text : List ℕ) → room ≡ 0 → ty_at names room text ≡ None
unfolding ty_at nothing
no_room names room text e = rw e refl

pub variable_fails : (end : LineEnd) (names : Names) (room : ℕ) (text rest : List ℕ) → 0 < room → past (codes "'") text ≡ Some rest → Fails end (small_at rest) → Fails end (ty_at names room text)
unfolding ty_at after bind
variable_fails end names zero text rest some e f = absurd (omega arith)
variable_fails Form names (suc room) text rest some e f = rw (e, f) refl
variable_fails NoMemory names (suc room) text rest some e f = tt

pub a_variable : (names : Names) (room : ℕ) (text rest left : List ℕ) (n : ℕ) → 0 < room → past (codes "'") text ≡ Some rest → small_at rest ≡ Some (n, left) → ty_at names room text ≡ Some (ty.Var n, left)
unfolding ty_at after bind pure
a_variable names zero text rest left n some e f = absurd (omega arith)
a_variable names (suc room) text rest left n some e f = rw (e, f) refl

pub a_word : (names : Names) (room : ℕ) (text word rest : List ℕ) → 0 < room → past (codes "'") text ≡ None → word_at text ≡ Some (word, rest) → bytes_eq word (codes "Word") ≡ true → ty_at names room text ≡ Some (ty.Word, rest)
unfolding ty_at after bind choice pure
a_word names zero text word rest some e f g = absurd (omega arith)
a_word names (suc room) text word rest some e f g = rw (e, f, g) refl

pub a_datatype : (names : Names) (room : ℕ) (text word rest : List ℕ) → 0 < room → past (codes "'") text ≡ None → word_at text ≡ Some (word, rest) → bytes_eq word (codes "Word") ≡ false → ty_at names room text ≡ datatype_at names (ty_at names (room - 1)) word rest
unfolding ty_at after bind choice
a_datatype names zero text word rest some e f g = absurd (omega arith)
a_datatype names (suc room) text word rest some e f g =
    let less : suc room - 1 ≡ room = omega arith in
    rw (e, f, g, less) refl

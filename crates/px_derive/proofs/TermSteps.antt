-- What reading an argument finds, at each way out of its function.
use Rattle.std.proofs.Common.{◌≡◌, ℕ, zero, suc, ◌-◌, ◌<◌, true, false, List, Some, None, refl, arith, codes}
use Rattle.std.specs.Char.{is_ascii_digit, is_ascii_uppercase}
use Rattle.px_base.specs.declared.names.Names.{Names}
use Rattle.px_terms.specs.declared.term.Term.TheVariants as term
use Rattle.px_derive.specs.declared.terms.Argument.TheVariants.{Value}
use Rattle.px_derive.specs.Readers.{nothing, pure, bind, past, after, choice, begins}
use Rattle.px_derive.specs.Reading.{small_at, literal_at, ty_at, construction_at, function_at, argument_at}
use Rattle.px_derive.specs.Gives.{Fails}
use Rattle.px_derive.specs.declared.line_end.LineEnd.{LineEnd}
use Rattle.px_derive.specs.declared.line_end.LineEnd.TheVariants.{Form, NoMemory}

pub no_room : (names : Names) (room : ℕ) (text : List ℕ) → room ≡ 0 → argument_at names room text ≡ None
unfolding argument_at nothing
no_room names room text e = rw e refl

pub variable_fails : (end : LineEnd) (names : Names) (room : ℕ) (text rest : List ℕ) → 0 < room → past (codes "$") text ≡ Some rest → Fails end (small_at rest) → Fails end (argument_at names room text)
unfolding argument_at after bind
variable_fails end names zero text rest some e f = absurd (omega arith)
variable_fails Form names (suc room) text rest some e f = rw (e, f) refl
variable_fails NoMemory names (suc room) text rest some e f = tt

pub a_variable : (names : Names) (room : ℕ) (text rest left : List ℕ) (n : ℕ) → 0 < room → past (codes "$") text ≡ Some rest → small_at rest ≡ Some (n, left) → argument_at names room text ≡ Some (Value (term.Free n), left)
unfolding argument_at after bind pure
a_variable names zero text rest left n some e f = absurd (omega arith)
a_variable names (suc room) text rest left n some e f = rw (e, f) refl

pub literal_fails : (end : LineEnd) (names : Names) (room : ℕ) (text : List ℕ) → 0 < room → past (codes "$") text ≡ None → begins is_ascii_digit text ≡ true → Fails end (literal_at text) → Fails end (argument_at names room text)
unfolding argument_at after choice bind
literal_fails end names zero text some e d f = absurd (omega arith)
literal_fails Form names (suc room) text some e d f = rw (e, d, f) refl
literal_fails NoMemory names (suc room) text some e d f = tt

pub a_literal : (names : Names) (room : ℕ) (text left : List ℕ) (w : ℕ) → 0 < room → past (codes "$") text ≡ None → begins is_ascii_digit text ≡ true → literal_at text ≡ Some (w, left) → argument_at names room text ≡ Some (Value (term.Lit w), left)
unfolding argument_at after choice bind pure
a_literal names zero text left w some e d f = absurd (omega arith)
a_literal names (suc room) text left w some e d f = rw (e, d, f) refl

pub a_construction : (names : Names) (room : ℕ) (text : List ℕ) → 0 < room → past (codes "$") text ≡ None → begins is_ascii_digit text ≡ false → begins is_ascii_uppercase text ≡ true → argument_at names room text ≡ construction_at names (ty_at names (room - 1)) (argument_at names (room - 1)) text
unfolding argument_at after choice
a_construction names zero text some e d f = absurd (omega arith)
a_construction names (suc room) text some e d f =
    let less : suc room - 1 ≡ room = omega arith in
    rw (e, d, f, less) refl

pub a_function : (names : Names) (room : ℕ) (text : List ℕ) → 0 < room → past (codes "$") text ≡ None → begins is_ascii_digit text ≡ false → begins is_ascii_uppercase text ≡ false → argument_at names room text ≡ function_at names (room - 1) (argument_at names (room - 1)) text
unfolding argument_at after choice
a_function names zero text some e d f = absurd (omega arith)
a_function names (suc room) text some e d f =
    let less : suc room - 1 ≡ room = omega arith in
    rw (e, d, f, less) refl

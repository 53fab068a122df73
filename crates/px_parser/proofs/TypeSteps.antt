-- How a type is read, part by part.
use Rattle.std.proofs.Common.{◌≡◌, ℕ, suc, ◌-◌, List, length, Ok, Err, refl, sym, subst, arith}
use Rattle.px_parser.specs.Words.{Word}
use Rattle.px_parser.specs.Grammar.{type_of}
use Rattle.px_parser.specs.Readers.{onward, bind, pure, fail}
use Rattle.px_parser.specs.Reading.{upper_at, type_at, type_arguments_at}
use Rattle.px_parser.specs.Gives.{Fails}
use Rattle.px_parser.specs.declared.surface.Name.{Name}
use Rattle.px_parser.specs.declared.surface.SType.{SType}
use Rattle.px_parser.specs.declared.phrase_end.PhraseEnd.{PhraseEnd}
use Rattle.px_parser.specs.declared.phrase_end.PhraseEnd.TheVariants.{Fault, NoMemory}

pub no_type : (room : ℕ) (words : List Word) → room ≡ 0 → type_at room words ≡ Err (length words)
unfolding type_at fail
no_type room words e = rw e refl

type_step : (room : ℕ) (words : List Word) → type_at (suc room) words ≡ onward (upper_at words) (λ x. onward (type_arguments_at room x.1) (λ y. Ok (type_of x.0 y.0, y.1)))
unfolding type_at type_arguments_at bind pure
type_step room words = refl

not_zero : (room : ℕ) → (room ≡ 0 → ⊥) → room ≡ suc (room - 1)
not_zero room some = omega arith

pub a_type : (room : ℕ) (words mid rest : List Word) (name : Name) (args : List SType) → (room ≡ 0 → ⊥) → upper_at words ≡ Ok (name, mid) → type_arguments_at (room - 1) mid ≡ Ok (args, rest) → type_at room words ≡ Ok (type_of name args, rest)
a_type room words mid rest name args some e f =
    let P : ℕ → Type 0 = λ n. type_at n words ≡ Ok (type_of name args, rest) in
    subst P (sym (not_zero room some)) (rw (type_step (room - 1) words, e, f) refl)

pub no_name : (room : ℕ) (words : List Word) (end : PhraseEnd) → (room ≡ 0 → ⊥) → Fails end (upper_at words) → Fails end (type_at room words)
no_name room words NoMemory some e = tt
no_name room words (Fault left) some e =
    let P : ℕ → Type 0 = λ n. type_at n words ≡ Err left in
    subst P (sym (not_zero room some)) (rw (type_step (room - 1) words, e) refl)

pub no_arguments : (room : ℕ) (words mid : List Word) (name : Name) (end : PhraseEnd) → (room ≡ 0 → ⊥) → upper_at words ≡ Ok (name, mid) → Fails end (type_arguments_at (room - 1) mid) → Fails end (type_at room words)
no_arguments room words mid name NoMemory some e f = tt
no_arguments room words mid name (Fault left) some e f =
    let P : ℕ → Type 0 = λ n. type_at n words ≡ Err left in
    subst P (sym (not_zero room some)) (rw (type_step (room - 1) words, e, f) refl)

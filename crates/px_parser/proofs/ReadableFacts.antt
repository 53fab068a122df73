-- What is known of a readable token.
use Rattle.std.proofs.Common.{◌≡◌, ℕ, ◌<◌, ◌≤◌, Bool, true, false, ◌&&◌, ◌||◌, not, nat_le, List, [], ◌∷◌, length, slice_range, IsUtf8, IsAscii, IsTrue, Result, Ok, Err, MatchResult, refl, arith, rules}
use Rattle.std.specs.List.{list_all}
use Rattle.std.specs.Result.{IsOk}
use Rattle.std.proofs.lemmas.Bool.Decides.{nat_tests}
use Rattle.std.proofs.lemmas.Str.{IsUtf8-from_ascii}
use Rattle.std.proofs.lemmas.Str.Ascii.{IsAscii-nil, IsAscii-cons}
use Rattle.px_lexer.specs.Bytes.{is_name_part}
use Rattle.px_lexer.specs.declared.token.Token.{Token}
use Rattle.px_parser.specs.Kinds.{is_name}
use Rattle.px_parser.specs.Readable.{is_readable}

pub both_true : (a b : Bool) → (a && b) ≡ true → (a ≡ true) × (b ≡ true)
both_true true true e = (refl, refl)
both_true true false e = absurd (cc)
both_true false b e = absurd (cc)

name_part_is_ascii : (byte : ℕ) → is_name_part byte ≡ true → byte < 128
name_part_is_ascii byte e = grind (arith, nat_tests)

ascii : (bytes : List ℕ) → list_all is_name_part bytes ≡ true → IsAscii bytes
ascii [] e = IsAscii-nil
ascii (byte ∷ bytes) e =
    let q = both_true (is_name_part byte) (list_all is_name_part bytes) e in
    IsAscii-cons byte bytes (name_part_is_ascii byte q.0) (ascii bytes q.1)

pub within_text : (text : List ℕ) (token : Token) → IsTrue (is_readable text token) → (token.start ≤ token.end) × (token.end ≤ length text)
unfolding is_readable
within_text text token e =
    let q = both_true (nat_le token.start token.end && nat_le token.end (length text)) _ e in
    let r = both_true (nat_le token.start token.end) (nat_le token.end (length text)) q.0 in
    (grind (arith, nat_tests), grind (arith, nat_tests))

or_true : (a b : Bool) → a ≡ true → (not a || b) ≡ true → b ≡ true
or_true true b h e = e
or_true false b h e = absurd (cc)

pub name_is_utf8 : (text : List ℕ) (token : Token) → IsTrue (is_readable text token) → IsTrue (is_name token.kind) → IsUtf8 (slice_range text token.start token.end)
unfolding is_readable
name_is_utf8 text token e is =
    let q = both_true (nat_le token.start token.end && nat_le token.end (length text)) _ e in
    IsUtf8-from_ascii _ (ascii _ (or_true (is_name token.kind) _ is q.1))

pub is_ok_from : {A E : Type 0} (P : A → Type 0) (Q : E → Type 0) (N : Type 0) (r : Result A E) → MatchResult r P (λ e. (¬ N) × Q e) → N → IsOk r
is_ok_from P Q N (Ok x) h n = search rules
is_ok_from P Q N (Err e) h n = absurd (h.0 n)

-- The tokens of a text are readable.
use Rattle.std.proofs.Common.{◌≡◌, ℕ, Bool, true, ◌&&◌, ◌||◌, not, nat_le, List, length, slice_range, IsTrue, refl, le-leb, arith}
use Rattle.std.specs.List.{list_all}
use Rattle.std.proofs.lemmas.List.Sums.{list_all-from_AllPass}
use Rattle.px_lexer.specs.Bytes.{is_name_part}
use Rattle.px_lexer.specs.Forms.{HasForm, IsTokenOf}
use Rattle.px_lexer.specs.Tokens.{Reads, none, blank, comment, token}
use Rattle.px_lexer.specs.declared.token.Token.{Token}
use Rattle.px_lexer.specs.declared.token.TokenKind.{TokenKind}
use Rattle.px_lexer.specs.declared.token.TokenKind.TheVariants as kinds
use Rattle.px_parser.specs.Kinds.{is_name}
use Rattle.px_parser.specs.Readable.{is_readable}

name_parts : (bytes : List ℕ) (kind : TokenKind) → HasForm bytes kind → (not (is_name kind) || list_all is_name_part bytes) ≡ true
name_parts bytes kinds.Lower form = list_all-from_AllPass is_name_part bytes form.0.rest
name_parts bytes kinds.Upper form = list_all-from_AllPass is_name_part bytes form.rest
name_parts bytes kinds.Number form = refl
name_parts bytes (kinds.Key k) form = refl
name_parts bytes (kinds.Property p) form = refl
name_parts bytes (kinds.Mark m) form = refl

all_three : (a b c : Bool) → a ≡ true → b ≡ true → c ≡ true → (a && b && c) ≡ true
all_three a b c e f g = rw (e, f, g) refl

readable_token : (text : List ℕ) (t : Token) → IsTokenOf text t → is_readable text t ≡ true
unfolding is_readable
readable_token text t is =
    all_three (nat_le t.start t.end) (nat_le t.end (length text)) _ (le-leb t.start t.end (let h = is.slice.rises in omega arith)) (le-leb t.end (length text) is.slice.within) (name_parts (slice_range text t.start t.end) t.kind is.slice.form)

both : (a b : Bool) → a ≡ true → b ≡ true → (a && b) ≡ true
both a b e f = rw (e, f) refl

pub readable_tokens : (text : List ℕ) (to at : ℕ) (ts : List Token) → Reads text to at ts → IsTrue (list_all (is_readable text) ts)
readable_tokens text to at ts (none e) = refl
readable_tokens text to at ts (blank {at = a} {ts = us} is rest) = readable_tokens text to _ us rest
readable_tokens text to at ts (comment {at = a} {ts = us} end is rest) = readable_tokens text to _ us rest
readable_tokens text to at ts (token {at = a} {t} {ts = us} starts is rest) = both (is_readable text t) (list_all (is_readable text) us) (readable_token text t is) (readable_tokens text to _ us rest)

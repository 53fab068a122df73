-- The texts of tokens.
use Rattle.std.specs.Prelude.{◌≡◌, ◌<◌, ◌≤◌, ◌^◌, ℕ, List, map, length, slice_range, All, Contains, IsTrue}
use Rattle.std.specs.Char.{is_ascii_digit, is_ascii_lowercase, is_ascii_uppercase}
use Rattle.std.specs.Str.Parse.{digits_value}
pub use Rattle.px_base.specs.NameForms.{IsName}
use Rattle.px_lexer.specs.declared.table.TheConstants.{WORDS, MARKS}
use Rattle.px_lexer.specs.declared.token.Token.{Token}
use Rattle.px_lexer.specs.declared.token.TokenKind.{TokenKind}
use Rattle.px_lexer.specs.declared.token.TokenKind.TheVariants as kinds

-- the rows of the table of reserved words
unfoldable pub words : List (List ℕ × TokenKind)
words = map (λ row. (row.0.now, row.1)) WORDS

-- the rows of the table of marks
unfoldable pub marks : List (List ℕ × TokenKind)
marks = map (λ row. (row.0.now, row.1)) MARKS

-- the word is reserved
abbrev pub IsReserved : List ℕ → Type 0
IsReserved word = (kind : TokenKind) × Contains words (word, kind)

-- a run of digits
pub record IsDigits (word : List ℕ) : Type 0 where
  pub some : 0 < length word
  pub digits : All (λ byte. IsTrue (is_ascii_digit byte)) word

-- the word is the text of a token of this kind
abbrev pub HasForm : List ℕ → TokenKind → Type 0
HasForm word kinds.Lower = IsName is_ascii_lowercase word × ¬ IsReserved word
HasForm word kinds.Upper = IsName is_ascii_uppercase word
HasForm word kinds.Number = IsDigits word
HasForm word (kinds.Key key) = Contains words (word, kinds.Key key)
HasForm word (kinds.Property prop) = Contains words (word, kinds.Property prop)
HasForm word (kinds.Mark mark) = Contains marks (word, kinds.Mark mark)

-- a number's value, and 0 for any other token
abbrev pub HasValue : TokenKind → List ℕ → ℕ → Type 0
HasValue kinds.Number word number = (number ≡ digits_value 10 word) × (number < 2 ^ 64)
HasValue _ word number = number ≡ 0

-- the text from `start` to `end` has the form of this kind, and no longer one from `start` has a form
pub record IsLongest (text : List ℕ) (start end : ℕ) (kind : TokenKind) : Type 0 where
  pub rises : start < end
  pub within : end ≤ length text
  pub form : HasForm (slice_range text start end) kind
  pub longest : (later : ℕ) (other : TokenKind) → end < later → later ≤ length text → ¬ HasForm (slice_range text start later) other

-- the token stands in the text: its slice is the longest form that begins there, and its number is the slice's
pub record IsTokenOf (text : List ℕ) (token : Token) : Type 0 where
  pub slice : IsLongest text token.start token.end token.kind
  pub value : HasValue token.kind (slice_range text token.start token.end) token.number

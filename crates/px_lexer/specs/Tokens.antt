-- The tokens of a text, and its fault.
use Rattle.std.specs.Prelude.{◌≡◌, ◌<◌, ◌≤◌, ◌+◌, ◌^◌, ◌⊎◌, ℕ, List, [], ◌∷◌, length, slice_range, Result, Err}
use Rattle.std.specs.Str.Parse.{digits_value}
use Rattle.px_lexer.specs.Bytes.{IsBlankAt, IsComment}
use Rattle.px_lexer.specs.Forms.{HasForm, IsLongest, IsTokenOf}
use Rattle.px_lexer.specs.declared.scan.LexEnd.{LexEnd}
use Rattle.px_lexer.specs.declared.scan.LexEnd.TheVariants.{Fault, NoMemory}
use Rattle.px_lexer.specs.declared.token.Token.{Token}
use Rattle.px_lexer.specs.declared.token.TokenKind.{TokenKind}
use Rattle.px_lexer.specs.declared.token.TokenKind.TheVariants as kinds

-- from a place on up to the place `to`, the text is these tokens, with blanks and comments around them
pub data Reads (text : List ℕ) (to : ℕ) : ℕ → List Token → Type 0 where
  none : {at : ℕ} → at ≡ to → Reads text to at []
  blank : {at : ℕ} {ts : List Token} → IsBlankAt text at → Reads text to (at + 1) ts → Reads text to at ts
  comment : {at : ℕ} {ts : List Token} (end : ℕ) → IsComment text at end → Reads text to end ts → Reads text to at ts
  token : {at : ℕ} {t : Token} {ts : List Token} → t.start ≡ at → IsTokenOf text t → Reads text to t.end ts → Reads text to at (t ∷ ts)

-- the whole text is these tokens, with blanks and comments around them
abbrev pub AreTokens : List ℕ → List Token → Type 0
AreTokens text ts = Reads text (length text) 0 ts

-- at this place the text does not end, and no blank, no comment and no token's text begins
pub record NoneBegins (text : List ℕ) (at : ℕ) : Type 0 where
  pub within : at < length text
  pub no_blank : ¬ IsBlankAt text at
  pub no_comment : (end : ℕ) → ¬ IsComment text at end
  pub no_token : (end : ℕ) (kind : TokenKind) → end ≤ length text → ¬ HasForm (slice_range text at end) kind

-- at this place a number stands that is above 2^64 - 1
abbrev pub IsOversized : List ℕ → ℕ → Type 0
IsOversized text at = (end : ℕ) × IsLongest text at end kinds.Number × (2 ^ 64 ≤ digits_value 10 (slice_range text at end))

-- all before this place is tokens, blanks and comments, and here none begins, or a number that is too large
abbrev pub IsFault : List ℕ → ℕ → Type 0
IsFault text at = (ts : List Token) × Reads text at 0 ts × (NoneBegins text at ⊎ IsOversized text at)

-- the answer is this one, or memory ran out
abbrev pub IsUnlessNoMemory : Result (List Token) LexEnd → Result (List Token) LexEnd → Type 0
IsUnlessNoMemory answer result = (result ≡ answer) ⊎ (result ≡ Err NoMemory)

-- what an end says: of a fault its place; of want of memory nothing
abbrev pub IsEnd : List ℕ → LexEnd → Type 0
IsEnd text (Fault at) = IsFault text at
IsEnd text NoMemory = Unit {0}

-- the spans rise from the one place to the other, and none is empty
abbrev pub SpansRise : ℕ → List Token → ℕ → Type 0
SpansRise from [] to = from ≤ to
SpansRise from (t ∷ ts) to = (from ≤ t.start) × (t.start < t.end) × SpansRise t.end ts to

-- What the grammar sees of a text's tokens.
use Rattle.std.specs.Prelude.{ℕ, List, map, slice_range}
use Rattle.px_lexer.specs.declared.token.Token.{Token}
use Rattle.px_lexer.specs.declared.token.TokenKind.{TokenKind}

-- A token with its text: its kind, the place of its first byte, its bytes, and a number's value.
pub record Word : Type 0 where
  pub kind : TokenKind
  pub at : ℕ
  pub text : List ℕ
  pub number : ℕ

-- the word of a token of the text
abbrev pub word_of : List ℕ → Token → Word
word_of text token = record { kind = token.kind; at = token.start; text = slice_range text token.start token.end; number = token.number }

-- the words of the text's tokens
abbrev pub words_of : List ℕ → List Token → List Word
words_of text tokens = map (word_of text) tokens

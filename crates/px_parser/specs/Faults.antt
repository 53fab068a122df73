-- The program of a text's tokens, and the fault of tokens that are no program.
use Rattle.std.specs.Prelude.{◌≡◌, ℕ, ◌<◌, ◌+◌, ◌⊎◌, List, ◌++◌, length, take, slice_get, option_map, unwrap_or, Result, Err}
use Rattle.px_lexer.specs.declared.token.Token.{Token}
use Rattle.px_parser.specs.Words.{Word, words_of}
use Rattle.px_parser.specs.Grammar.{program}
use Rattle.px_parser.specs.declared.surface.Surface.{Surface}
use Rattle.px_parser.specs.declared.parse_end.ParseEnd.{ParseEnd}
use Rattle.px_parser.specs.declared.parse_end.ParseEnd.TheVariants.{Fault, NoMemory}

-- some program begins with these words
pub record Begins (words : List Word) : Type 0 where
  pub more : List Word
  pub tree : Surface
  pub is : program (words ++ more) tree

-- The fault is at the word of this number: the words before it begin a program, and through it none begins. Or it is at
-- the end: the words begin a program, and are none.
pub data IsFaultAt (words : List Word) : ℕ → Type 0 where
  word : {n : ℕ} → n < length words → Begins (take n words) → ¬ Begins (take (n + 1) words) → IsFaultAt words n
  end : {n : ℕ} → n ≡ length words → Begins words → ((tree : Surface) → ¬ program words tree) → IsFaultAt words n

-- the tokens of the text are the program of this tree
abbrev pub IsProgramOf : List ℕ → List Token → Surface → Type 0
IsProgramOf text tokens tree = program (words_of text tokens) tree

-- the place of the word of this number, or of the text's end
abbrev pub place_of : List ℕ → List Token → ℕ → ℕ
place_of text tokens n = unwrap_or (option_map (λ (word : Word). word.at) (slice_get (words_of text tokens) n)) (length text)

-- the tokens of the text are no program, and their fault is at this place
pub record IsFaultOf (text : List ℕ) (tokens : List Token) (at : ℕ) : Type 0 where
  pub number : ℕ
  pub is : IsFaultAt (words_of text tokens) number
  pub place : at ≡ place_of text tokens number

-- what an end says: of a fault its place; of want of memory nothing
abbrev pub IsEnd : List ℕ → List Token → ParseEnd → Type 0
IsEnd text tokens (Fault at) = IsFaultOf text tokens at
IsEnd text tokens NoMemory = Unit {0}

-- the answer is this one, or memory ran out
abbrev pub IsUnlessNoMemory : Result Surface ParseEnd → Result Surface ParseEnd → Type 0
IsUnlessNoMemory answer result = (result ≡ answer) ⊎ (result ≡ Err NoMemory)

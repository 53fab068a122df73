-- Which texts are which values of a type.
use Rattle.std.specs.Prelude.{◌≡◌, ℕ, ◌<◌, ◌≤◌, List, [], ◌∷◌, ◌++◌, length, Some, slice_get, unwrap_or, All, IsTrue}
use Rattle.std.specs.Char.{is_ascii_digit}
use Rattle.std.specs.Str.Parse.{digits_value}
use Rattle.px_base.specs.declared.limits.TheConstants.{VALUE_NODES}
use Rattle.px_base.specs.declared.names.Names.{Names}
use Rattle.px_terms.specs.declared.types.Ty.{Ty}
use Rattle.px_terms.specs.declared.term.Value.{Value}
use Rattle.px_terms.specs.declared.term.Value.TheOpen.{Value-F}
use Rattle.px_terms.specs.declared.term.Value.TheFolds.{fold-Value}
use Rattle.px_terms.specs.declared.program.Program.{Program}
use Rattle.px_terms.specs.Values.{IsIn}
use Rattle.px_machine.specs.Cells.{preorder}

-- a piece of a value's text: a number, a constructor's name, or a mark by its byte
pub data Piece : Type 0 where
  numeral : ℕ → Piece
  constructor : ℕ → ℕ → Piece
  mark : ℕ → Piece

-- behind the first field: the others, each behind a comma, and `)`
abbrev pub closed : List (List Piece) → List Piece
closed [] = mark 41 ∷ []
closed (field ∷ fields) = mark 44 ∷ (field ++ closed fields)

-- a constructor's fields between `(` and `)`, with commas between, and nothing where there are none
abbrev pub in_parentheses : List (List Piece) → List Piece
in_parentheses [] = []
in_parentheses (field ∷ fields) = mark 40 ∷ (field ++ closed fields)

-- a number, or a constructor's name and its fields
abbrev pub pieces_step : Value-F (List Piece) → List Piece
pieces_step (Value-F.Lit w) = numeral w ∷ []
pieces_step (Value-F.Con d k fields) = constructor d k ∷ in_parentheses fields

-- the pieces of a value
abbrev pub pieces : Value → List Piece
pieces = fold-Value (List Piece) pieces_step

-- digits that add up to the number; zeros may stand in front
pub record IsNumeral (word : List ℕ) (w : ℕ) : Type 0 where
  pub some : 0 < length word
  pub digits : All (λ byte. IsTrue (is_ascii_digit byte)) word
  pub value : digits_value 10 word ≡ w

-- the names of a datatype's constructors
abbrev pub constructors_at : Names → ℕ → List (List ℕ)
constructors_at names d = unwrap_or (slice_get names.cons d) []

-- the word is the piece; a constructor without a name has none
abbrev pub IsWord : Names → List ℕ → Piece → Type 0
IsWord names word (numeral w) = IsNumeral word w
IsWord names word (constructor d k) = slice_get (constructors_at names d) k ≡ Some word
IsWord names word (mark byte) = word ≡ byte ∷ []

-- the text is these pieces, with any number of spaces before, between and behind them
pub data AreSpelled (names : Names) : List ℕ → List Piece → Type 0 where
  nothing : AreSpelled names [] []
  space : {text : List ℕ} {ps : List Piece} → AreSpelled names text ps → AreSpelled names (32 ∷ text) ps
  piece : {whole text : List ℕ} {p : Piece} {ps : List Piece} (word : List ℕ) → IsWord names word p → whole ≡ word ++ text → AreSpelled names text ps →
      AreSpelled names whole (p ∷ ps)

-- The text is this value of the type, which has at most VALUE_NODES nodes.
pub record IsText (P : Program) (T : Ty) (text : List ℕ) (v : Value) : Type 0 where
  pub typed : IsIn P T v
  pub spelled : AreSpelled P.names text (pieces v)
  pub small : length (preorder v) ≤ VALUE_NODES

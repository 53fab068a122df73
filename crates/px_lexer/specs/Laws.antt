-- What the definitions say of every text, and of the tables.
use Rattle.std.specs.Prelude.{◌≡◌, ℕ, List, [], ◌∷◌, Contains, codes}
use Rattle.std.specs.Char.{is_ascii_lowercase}
use Rattle.px_base.specs.declared.prop.Prop.{Prop}
use Rattle.px_base.specs.declared.prop.Prop.TheVariants as prop
use Rattle.px_lexer.specs.Forms.{IsName, words, marks}
use Rattle.px_lexer.specs.Tokens.{AreTokens, IsFault}
use Rattle.px_lexer.specs.declared.token.Key.{Key}
use Rattle.px_lexer.specs.declared.token.Key.TheVariants as key
use Rattle.px_lexer.specs.declared.token.Mark.{Mark}
use Rattle.px_lexer.specs.declared.token.Mark.TheVariants as mark
use Rattle.px_lexer.specs.declared.token.Token.{Token}
use Rattle.px_lexer.specs.declared.token.TokenKind.{TokenKind}
use Rattle.px_lexer.specs.declared.token.TokenKind.TheVariants as kinds

-- a text has at most one list of tokens
abbrev pub OneList : Type 0
OneList = (text : List ℕ) (ts others : List Token) → AreTokens text ts → AreTokens text others → ts ≡ others

-- a text has at most one fault
abbrev pub OneFault : Type 0
OneFault = (text : List ℕ) (at other : ℕ) → IsFault text at → IsFault text other → at ≡ other

-- no text has both
abbrev pub NeverBoth : Type 0
NeverBoth = (text : List ℕ) (ts : List Token) (at : ℕ) → AreTokens text ts → IsFault text at → ⊥

-- the table has one text for this kind
abbrev pub HasOneText : List (List ℕ × TokenKind) → TokenKind → Type 0
HasOneText rows kind = (word : List ℕ) × Contains rows (word, kind) × ((other : List ℕ) → Contains rows (other, kind) → other ≡ word)

-- the table has at most one kind for each text
abbrev pub HasOneKindEach : List (List ℕ × TokenKind) → Type 0
HasOneKindEach rows = (word : List ℕ) (kind other : TokenKind) → Contains rows (word, kind) → Contains rows (word, other) → kind ≡ other

-- each reserved word, property word and mark has one text, no text is spelled for two, and a word has the form of a name
pub record OneSpelling : Type 0 where
  pub each_key : (key : Key) → HasOneText words (kinds.Key key)
  pub each_property : (prop : Prop) → HasOneText words (kinds.Property prop)
  pub each_mark : (mark : Mark) → HasOneText marks (kinds.Mark mark)
  pub words_apart : HasOneKindEach words
  pub marks_apart : HasOneKindEach marks
  pub names : (word : List ℕ) (kind : TokenKind) → Contains words (word, kind) → IsName is_ascii_lowercase word

-- the tables, row by row: the text of each reserved word, property word and mark
pub record Letters : Type 0 where
  pub words_are : words ≡ (codes "data", kinds.Key key.KData) ∷ (codes "def", kinds.Key key.KDef) ∷ (codes "claim", kinds.Key key.KClaim) ∷ (codes "lemma", kinds.Key key.KLemma) ∷ (codes "replica", kinds.Key key.KReplica) ∷ (codes "from", kinds.Key key.KFrom) ∷ (codes "by", kinds.Key key.KBy) ∷ (codes "match", kinds.Key key.KMatch) ∷ (codes "fn", kinds.Key key.KFn) ∷ (codes "with", kinds.Key key.KWith) ∷ (codes "comm", kinds.Property prop.Comm) ∷ (codes "assoc", kinds.Property prop.Assoc) ∷ (codes "idem", kinds.Property prop.Idem) ∷ (codes "sel", kinds.Property prop.Sel) ∷ (codes "refl", kinds.Property prop.Refl) ∷ (codes "irrefl", kinds.Property prop.Irrefl) ∷ (codes "sym", kinds.Property prop.Sym) ∷ (codes "antisym", kinds.Property prop.Antisym) ∷ (codes "asym", kinds.Property prop.Asym) ∷ (codes "trans", kinds.Property prop.Trans) ∷ (codes "conn", kinds.Property prop.Conn) ∷ []
  pub marks_are : marks ≡ (codes "->", kinds.Mark mark.Arrow) ∷ (codes "=>", kinds.Mark mark.FatArrow) ∷ (codes "{", kinds.Mark mark.BraceL) ∷ (codes "}", kinds.Mark mark.BraceR) ∷ (codes "(", kinds.Mark mark.ParenL) ∷ (codes ")", kinds.Mark mark.ParenR) ∷ (codes "<", kinds.Mark mark.Less) ∷ (codes ">", kinds.Mark mark.Greater) ∷ (codes ",", kinds.Mark mark.Comma) ∷ (codes ":", kinds.Mark mark.Colon) ∷ (codes "=", kinds.Mark mark.Equal) ∷ []

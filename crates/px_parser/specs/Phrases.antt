-- Ways to join phrases. A phrase says which lists of words are written for which value.
use Rattle.std.specs.Prelude.{◌≡◌, ℕ, List, [], ◌∷◌, ◌++◌}
use Rattle.px_base.specs.declared.raw.RawProp.{RawProp}
use Rattle.px_lexer.specs.declared.token.Key.{Key}
use Rattle.px_lexer.specs.declared.token.Mark.{Mark}
use Rattle.px_lexer.specs.declared.token.TokenKind.TheVariants as kinds
use Rattle.px_parser.specs.Words.{Word}
use Rattle.px_parser.specs.declared.surface.Name.{Name}
use Rattle.px_parser.specs.declared.surface.SExpr.{SExpr}
use Rattle.px_parser.specs.declared.surface.SExprKind.TheVariants as expr_kinds

-- which words are written for which value
abbrev pub Phrase : Type 0 → Type 1
Phrase T = List Word → T → Type 0

-- no words at all are written for any value
abbrev pub impossible : {T : Type 0} → Phrase T
impossible words value = ⊥

-- no words are written for this value
pub record IsDone {T : Type 0} (result : T) (words : List Word) (value : T) : Type 0 where
  pub none : words ≡ []
  pub same : value ≡ result

-- no words, which stand for this value
abbrev pub done : {T : Type 0} → T → Phrase T
done result = IsDone result

-- first a phrase, and then the phrase that follows its value
pub record IsSequence {S T : Type 0} (A : List Word → S → Type 0) (B : S → List Word → T → Type 0) (words : List Word) (value : T) : Type 0 where
  pub first : S
  pub front : List Word
  pub back : List Word
  pub is_front : A front first
  pub is_back : B first back value
  pub whole : words ≡ front ++ back

infixl 10 ◌>>=◌
-- first a phrase, and then the phrase that follows its value
abbrev pub ◌>>=◌ : {S T : Type 0} → Phrase S → (S → Phrase T) → Phrase T
A >>= B = IsSequence A B

-- the one phrase or the other
pub data Either {T : Type 0} (A B : List Word → T → Type 0) : List Word → T → Type 0 where
  one : {words : List Word} {value : T} → A words value → Either A B words value
  other : {words : List Word} {value : T} → B words value → Either A B words value

-- the phrase, or no words, which stand for this value
abbrev pub optional : {T : Type 0} → T → Phrase T → Phrase T
optional absent A = Either A (done absent)

-- the phrase again and again, any number of times
pub data Each {T : Type 0} (A : List Word → T → Type 0) : List Word → List T → Type 0 where
  none : Each A [] []
  more : {words front back : List Word} {x : T} {xs : List T} → A front x → Each A back xs → words ≡ front ++ back → Each A words (x ∷ xs)

-- one word of which this is said
pub record IsWord {T : Type 0} (Is : Word → T → Type 0) (words : List Word) (value : T) : Type 0 where
  pub word : Word
  pub is : Is word value
  pub whole : words ≡ word ∷ []

-- the word is this mark
pub record IsMark (m : Mark) (word : Word) (nothing : Unit {0}) : Type 0 where
  pub kind : word.kind ≡ kinds.Mark m

-- the word is this reserved word, and stands at this place
pub record IsKey (k : Key) (word : Word) (at : ℕ) : Type 0 where
  pub kind : word.kind ≡ kinds.Key k
  pub same : at ≡ word.at

-- the word is this name, which begins with a small letter
pub record IsLower (word : Word) (name : Name) : Type 0 where
  pub kind : word.kind ≡ kinds.Lower
  pub same : name ≡ record { at = word.at; text = word.text }

-- the word is this name, which begins with a capital letter
pub record IsUpper (word : Word) (name : Name) : Type 0 where
  pub kind : word.kind ≡ kinds.Upper
  pub same : name ≡ record { at = word.at; text = word.text }

-- the word is this property's
pub record IsProperty (word : Word) (prop : RawProp) : Type 0 where
  pub kind : word.kind ≡ kinds.Property prop.prop
  pub same : prop.at ≡ word.at

-- the word is this number
pub record IsNumber (word : Word) (literal : SExpr) : Type 0 where
  pub kind : word.kind ≡ kinds.Number
  pub same : literal ≡ record { at = word.at; kind = expr_kinds.Number word.number }

-- this mark
abbrev pub mark : Mark → Phrase (Unit {0})
mark m = IsWord (IsMark m)

-- this reserved word, with its place
abbrev pub key : Key → Phrase ℕ
key k = IsWord (IsKey k)

-- a name that begins with a small letter
abbrev pub lower : Phrase Name
lower = IsWord IsLower

-- a name that begins with a capital letter
abbrev pub upper : Phrase Name
upper = IsWord IsUpper

-- a property's word
abbrev pub property : Phrase RawProp
property = IsWord IsProperty

-- a number
abbrev pub number : Phrase SExpr
number = IsWord IsNumber

-- the phrase once or more often, with this mark between
unfoldable pub list : {T : Type 0} → Mark → Phrase T → Phrase (List T)
list separator A = do
  first ← A
  others ← Each (do
    _ ← mark separator
    A)
  done (first ∷ others)

-- the phrase between two marks
unfoldable pub between : {T : Type 0} → Mark → Phrase T → Mark → Phrase T
between opening A closing = do
  _ ← mark opening
  value ← A
  _ ← mark closing
  done value

-- Readers: what the functions of this crate find at the front of a line, and how readers are joined. None of these says what a
-- line is: each is proved to read what is spelled.
use Rattle.std.specs.Prelude.{ℕ, zero, suc, ◌==◌, ◌&&◌, Bool, true, false, cond, nat_lt, List, [], ◌∷◌, ◌++◌, length, take, drop, Option, Some, None, option_and_then}
use Rattle.std.specs.List.{prefix_len}
use Rattle.std.specs.Char.{is_ascii_digit}
use Rattle.std.specs.Str.Parse.{digits_value}

-- a value and the bytes after it, or nothing
abbrev pub Reader : Type 0 → Type 0
Reader T = List ℕ → Option (T × List ℕ)

-- the value, and no byte is read
unfoldable pub pure : {T : Type 0} → T → Reader T
pure value text = Some (value, text)

-- nothing
unfoldable pub nothing : {T : Type 0} → Reader T
nothing text = None

-- the value, if there is one, and no byte is read
unfoldable pub lift : {T : Type 0} → Option T → Reader T
lift found text = option_and_then (λ value. Some (value, text)) found

-- first the one, and then what follows its value
unfoldable pub bind : {S T : Type 0} → Reader S → (S → Reader T) → Reader T
bind p k text = option_and_then (λ read. k read.0 read.1) (p text)

infixl 10 ◌>>=◌
-- first the one, and then what follows its value
abbrev pub ◌>>=◌ : {S T : Type 0} → Reader S → (S → Reader T) → Reader T
p >>= k = bind p k

-- the bytes after a word, where they begin with it
abbrev pub past : List ℕ → List ℕ → Option (List ℕ)
past [] text = Some text
past (w ∷ ws) [] = None
past (w ∷ ws) (c ∷ cs) = cond (w == c) (past ws cs) None

-- this word
unfoldable pub skip : List ℕ → Reader (Unit {0})
skip word text = option_and_then (λ rest. Some (tt, rest)) (past word text)

-- what the one reads there, where there is a place; else the other's
abbrev pub from_there : {T : Type 0} → Reader T → Option (List ℕ) → Option (T × List ℕ) → Option (T × List ℕ)
from_there p (Some rest) other = p rest
from_there p None other = other

-- the one after this word, or the other where the word does not stand there
unfoldable pub after : {T : Type 0} → List ℕ → Reader T → Reader T → Reader T
after word p q text = from_there p (past word text) (q text)

-- the one where the test holds, else the other
unfoldable pub choice : {T : Type 0} → (List ℕ → Bool) → Reader T → Reader T → Reader T
choice test p q text = cond (test text) (p text) (q text)

-- the first byte is of a class
abbrev pub begins : (ℕ → Bool) → List ℕ → Bool
begins class [] = false
begins class (c ∷ cs) = class c

-- the bytes of a class at the front
unfoldable pub run_of : (ℕ → Bool) → Reader (List ℕ)
run_of class text = Some (take (prefix_len class text) text, drop (prefix_len class text) text)

-- digits without a leading zero, or a zero alone
abbrev pub is_numeral : List ℕ → Bool
is_numeral [] = false
is_numeral (c ∷ []) = true
is_numeral (c ∷ d ∷ ds) = cond (c == 48) false true

-- the number that digits spell, where it is spelled so and is below the limit
unfoldable pub number_of : ℕ → List ℕ → Option ℕ
number_of limit digits = cond (is_numeral digits && nat_lt (digits_value 10 digits) limit) (Some (digits_value 10 digits)) None

-- a number below the limit
unfoldable pub number_at : ℕ → Reader ℕ
number_at limit = do
  digits ← run_of is_ascii_digit
  lift (number_of limit digits)

-- after each separator an item, which is added, so many times at most
unfoldable pub more_of : {S T : Type 0} → ℕ → Reader T → (S → T → Option S) → ℕ → S → Reader S
more_of separator item add zero all = pure all
more_of separator item add (suc most) all = after (separator ∷ []) (do
  x ← item
  now ← lift (add all x)
  more_of separator item add most now) (pure all)

-- after each separator an item, which is added
unfoldable pub more_at : {S T : Type 0} → ℕ → Reader T → (S → T → Option S) → S → Reader S
more_at separator item add all text = more_of separator item add (length text) all text

-- one item or more, with separators between, added to what there is
unfoldable pub gather : {S T : Type 0} → ℕ → Reader T → (S → T → Option S) → S → Reader S
gather separator item add all = do
  x ← item
  now ← lift (add all x)
  more_at separator item add now

-- the list with one more item
abbrev pub push : {T : Type 0} → List T → T → Option (List T)
push xs x = Some (xs ++ x ∷ [])

-- a list of one item or more, with separators between
unfoldable pub list_at : {T : Type 0} → ℕ → Reader T → Reader (List T)
list_at separator item = gather separator item push []

-- what stands between the marks, and nothing where the first does not stand there
unfoldable pub opened_at : {T : Type 0} → List ℕ → Reader (List T) → List ℕ → Reader (List T)
opened_at opening p closing = after opening (do
  xs ← p
  _ ← skip closing
  pure xs) (pure [])

-- what stands up to the closing mark, or this where the mark comes at once
unfoldable pub closed_at : {T : Type 0} → T → Reader T → List ℕ → Reader T
closed_at empty p closing = after closing (pure empty) (do
  xs ← p
  _ ← skip closing
  pure xs)

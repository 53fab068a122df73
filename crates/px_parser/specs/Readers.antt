-- Readers: what the functions of this crate find at the front of the words, and how readers are joined. Each is proved
-- to read its phrase.
use Rattle.std.specs.Prelude.{ℕ, zero, suc, Bool, cond, List, [], ◌∷◌, length, Option, Some, None, Result, Ok, Err}
use Rattle.px_parser.specs.Words.{Word}

-- a value and the words after it, or how many words are left at the first word that fits nothing
abbrev pub Reader : Type 0 → Type 0
Reader T = List Word → Result (T × List Word) ℕ

-- what comes after a result, where it is no fault
abbrev pub onward : {A B : Type 0} → Result A ℕ → (A → Result B ℕ) → Result B ℕ
onward (Ok x) f = f x
onward (Err left) f = Err left

-- the value, and no word is read
unfoldable pub pure : {T : Type 0} → T → Reader T
pure value words = Ok (value, words)

-- the first word fits nothing
unfoldable pub fail : {T : Type 0} → Reader T
fail words = Err (length words)

-- first the one, and then what follows its value
unfoldable pub bind : {S T : Type 0} → Reader S → (S → Reader T) → Reader T
bind p k words = onward (p words) (λ x. k x.0 x.1)

infixl 10 ◌>>=◌
-- first the one, and then what follows its value
abbrev pub ◌>>=◌ : {S T : Type 0} → Reader S → (S → Reader T) → Reader T
p >>= k = bind p k

-- the one where the test holds, else the other
unfoldable pub choice : {T : Type 0} → (List Word → Bool) → Reader T → Reader T → Reader T
choice test p q words = cond (test words) (p words) (q words)

-- a value and the words after it, where there is a value
abbrev pub found : {T : Type 0} → Option T → List Word → ℕ → Result (T × List Word) ℕ
found (Some value) rest left = Ok (value, rest)
found None rest left = Err left

-- the first word, where it has a value
unfoldable pub word_at : {T : Type 0} → (Word → Option T) → Reader T
word_at value_of [] = Err 0
word_at value_of (word ∷ rest) = found (value_of word) rest (length (word ∷ rest))

-- the items that come while the test holds, at most so many
unfoldable pub each_of : {T : Type 0} → (List Word → Bool) → Reader T → ℕ → Reader (List T)
each_of test item zero words = Ok ([], words)
each_of test item (suc most) words = cond (test words) (onward (item words) (λ x. onward (each_of test item most x.1) (λ xs. Ok (x.0 ∷ xs.0, xs.1)))) (Ok ([], words))

-- the items that come while the test holds
unfoldable pub each_at : {T : Type 0} → (List Word → Bool) → Reader T → Reader (List T)
each_at test item words = each_of test item (length words) words

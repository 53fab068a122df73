-- How names are written.
use Rattle.std.specs.Prelude.{ℕ, Bool, ◌||◌, ◌==◌, List, [], ◌∷◌, codes, slice_index, All, Contains, IsTrue}
use Rattle.std.specs.Char.{is_ascii_alphanumeric, is_ascii_lowercase, is_ascii_uppercase}

-- a letter, a digit or `_`: what a name goes on with
abbrev pub is_name_part : ℕ → Bool
is_name_part byte = is_ascii_alphanumeric byte || byte == 95

-- a byte of this class, then letters, digits and `_`
pub record IsName (is_first : ℕ → Bool) (word : List ℕ) : Type 0 where
  pub first : IsTrue (is_first (slice_index word 0))
  pub rest : All (λ byte. IsTrue (is_name_part byte)) word

-- the reserved words: those of the grammar, and those of the properties
abbrev pub reserved_words : List (List ℕ)
reserved_words =
    codes "data" ∷ codes "def" ∷ codes "claim" ∷ codes "lemma" ∷ codes "replica" ∷ codes "from" ∷ codes "by" ∷ codes "match" ∷ codes "fn" ∷ codes "with" ∷
    codes "comm" ∷ codes "assoc" ∷ codes "idem" ∷ codes "sel" ∷ codes "refl" ∷ codes "irrefl" ∷ codes "sym" ∷ codes "antisym" ∷ codes "asym" ∷ codes "trans" ∷ codes "conn" ∷ []

-- the name begins with a capital letter
abbrev pub IsUpperName : List ℕ → Type 0
IsUpperName word = IsName is_ascii_uppercase word

-- the name begins with a small letter, and is no reserved word
abbrev pub IsLowerName : List ℕ → Type 0
IsLowerName word = IsName is_ascii_lowercase word × ¬ Contains reserved_words word

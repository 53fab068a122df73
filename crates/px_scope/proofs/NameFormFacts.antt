-- A word of the form of a name with a small letter is no reserved word.
use Rattle.std.proofs.Common.{◌≡◌, ℕ, zero, suc, List, [], ◌∷◌, map, refl, subst, arith}
use Rattle.std.specs.Prelude.{Contains}
use Rattle.px_base.specs.NameForms.{reserved_words, IsLowerName}
use Rattle.px_lexer.specs.Forms.{HasForm, IsReserved, words}
use Rattle.px_lexer.specs.declared.token.TokenKind.{TokenKind}
use Rattle.px_lexer.specs.declared.token.TokenKind.TheVariants.{Lower}

-- the reserved words are the texts of the table
words_are : reserved_words ≡ map (λ (row : List ℕ × TokenKind). row.0) words
unfolding words
words_are = refl

-- what stands among the values of a list is the value of one of its items
value_of : {A B : Type 0} (f : A → B) (xs : List A) (y : B) → Contains (map f xs) y → (x : A) × Contains xs x × (f x ≡ y)
value_of f [] y (k, within, is) = absurd (omega arith)
value_of f (x ∷ xs) y (zero, within, is) = (x, (0, omega arith, refl), is)
value_of f (x ∷ xs) y (suc k, within, is) =
    let later = value_of f xs y (k, omega arith, is) in
    let found = later.1 in
    (later.0, (suc found.0, omega (arith, found.1), found.2), later.2)

-- a reserved word stands in the table
reserved : (word : List ℕ) → Contains reserved_words word → IsReserved word
reserved word c =
    let found = value_of (λ (row : List ℕ × TokenKind). row.0) words word (subst (λ ws. Contains ws word) words_are c) in
    let row = found.0 in
    (row.1, subst (Contains words) (λ i. (found.2 i, row.1)) found.1)

-- a word of this form is a lawful name
pub lower_name : (word : List ℕ) → HasForm word Lower → IsLowerName word
lower_name word form = (form.0, λ c. form.1 (reserved word c))

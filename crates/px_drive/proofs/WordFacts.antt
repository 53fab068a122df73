-- The words of a line: those before its options, and numbers.
use Rattle.std.proofs.Common.{◌≡◌, ◌<◌, ◌≤◌, ◌^◌, ◌⊎◌, ℕ, zero, suc, List, [], ◌∷◌, length, get_or, map, ◌+◌, Bool, true, false, nat_le, Some, None, Result, Ok, inl, inr, refl, ap, sym, subst, ◌∙◌, arith}
use Rattle.std.specs.Bool.{Decides}
use Rattle.std.specs.Fmt.{decimal}
use Rattle.std.specs.Str.{bytes_eq}
use Rattle.std.specs.Str.Parse.{digits_value, ParsesUnsigned}
use Rattle.std.proofs.lemmas.Fmt.{parse-decimal, decimal_is_IsNumeral}
use Rattle.std.proofs.lemmas.Slice.Eq.{bytes_eq-Decides}
use Rattle.std.proofs.lemmas.Bool.Decides.{leb_tells}
use Rattle.px_drive.specs.Lines.{is_option, SplitsAt, number_if, number_within}

-- the first n words begin no option
pub data AreBefore : List (List ℕ) → ℕ → Type 0 where
  none : {words : List (List ℕ)} → AreBefore words zero
  more : {word : List ℕ} {words : List (List ℕ)} {n : ℕ} → is_option word ≡ false → AreBefore words n → AreBefore (word ∷ words) (suc n)

-- one more word begins none
pub one_more : (words : List (List ℕ)) (n : ℕ) → n < length words → is_option (get_or words n []) ≡ false → AreBefore words n → AreBefore words (suc n)
one_more [] n less plain before = absurd (omega (arith, less))
one_more (word ∷ words) zero less plain none = more plain none
one_more (word ∷ words) (suc n) less plain (more first before) = more first (one_more words n (omega (arith, less)) plain before)

splits : (word : List ℕ) (words : List (List ℕ)) (n : ℕ) → is_option word ≡ false → SplitsAt words n → SplitsAt (word ∷ words) (suc n)
splits word words n plain s = record {
  within = omega (arith, s.within);
  before = rw plain (ap (λ (ws : List (List ℕ)). word ∷ ws) s.before);
  behind = rw plain s.behind;
}

-- the next word begins an option
pub here : (words : List (List ℕ)) (n : ℕ) → n < length words → is_option (get_or words n []) ≡ true → AreBefore words n → SplitsAt words n
here [] n less option before = absurd (omega (arith, less))
here (word ∷ words) zero less option none = record { within = omega arith; before = rw option refl; behind = rw option refl }
here (word ∷ words) (suc n) less option (more first before) = splits word words n first (here words n (omega (arith, less)) option before)

-- no word begins one
pub nowhere : (words : List (List ℕ)) → AreBefore words (length words) → SplitsAt words (length words)
nowhere [] before = record { within = omega arith; before = refl; behind = refl }
nowhere (word ∷ words) (more first before) = splits word words (length words) first (nowhere words before)

map_length : {A : Type 0} (bytes_of : A → List ℕ) (xs : List A) → length (map bytes_of xs) ≡ length xs
map_length bytes_of [] = refl
map_length bytes_of (x ∷ xs) = ap suc (map_length bytes_of xs)

-- the same over strings and their bytes
module _ {A : Type 0} (bytes_of : A → List ℕ) (d : A) where
  of_mapped : (xs : List A) (n : ℕ) → n < length xs → get_or (map bytes_of xs) n [] ≡ bytes_of (get_or xs n d)
  of_mapped [] n less = absurd (omega (arith, less))
  of_mapped (x ∷ xs) zero less = refl
  of_mapped (x ∷ xs) (suc n) less = of_mapped xs n (omega (arith, less))

  pub opens : (xs : List A) (n : ℕ) → n < length xs → is_option (bytes_of (get_or xs n d)) ≡ true → AreBefore (map bytes_of xs) n → SplitsAt (map bytes_of xs) n
  opens xs n less option before = here (map bytes_of xs) n (omega (arith, less, map_length bytes_of xs)) (ap is_option (of_mapped xs n less) ∙ option) before

  pub passes : (xs : List A) (n : ℕ) → n < length xs → is_option (bytes_of (get_or xs n d)) ≡ false → AreBefore (map bytes_of xs) n → AreBefore (map bytes_of xs) (n + 1)
  passes xs n less plain before = subst (AreBefore (map bytes_of xs)) (omega arith) (one_more (map bytes_of xs) n (omega (arith, less, map_length bytes_of xs)) (ap is_option (of_mapped xs n less) ∙ plain) before)

pub ends : {A : Type 0} (bytes_of : A → List ℕ) (xs : List A) (n : ℕ) → n ≡ length xs → AreBefore (map bytes_of xs) n → SplitsAt (map bytes_of xs) (length xs)
ends bytes_of xs n is before =
    let count : length (map bytes_of xs) ≡ length xs = map_length bytes_of xs in
    subst (SplitsAt (map bytes_of xs)) count (nowhere (map bytes_of xs) (subst (AreBefore (map bytes_of xs)) (is ∙ sym count) before))

-- what the test of a number says
abbrev Tells : ℕ → ℕ → List ℕ → ℕ → Type 0
Tells least most word n = ((number_if least most word n ≡ Some n) × (word ≡ decimal n) × (least ≤ n) × (n ≤ most)) ⊎ ((number_if least most word n ≡ None) × (word ≡ decimal n → least ≤ n → n ≤ most → ⊥))

number_tells : (least most : ℕ) (word : List ℕ) (n : ℕ) → Tells least most word n
number_tells least most word n = by_text (bytes_eq word (decimal n)) (bytes_eq-Decides word (decimal n)) refl
  where
    by_text : (b : Bool) → Decides b (word ≡ decimal n) → bytes_eq word (decimal n) ≡ b → Tells least most word n
    by_text false decides is = inr (rw is refl, λ e low high. (let no : false ≡ true = decides.1 e in cc))
    by_text true decides is = by_least (leb_tells least n)
      where
        by_most : (nat_le least n ≡ true) → (least ≤ n) → ((nat_le n most ≡ true) × (n ≤ most)) ⊎ ((nat_le n most ≡ false) × (most < n)) → Tells least most word n
        by_most low l (inl (high, m)) = inl (rw (is, low, high) refl, decides.0 refl, l, m)
        by_most low l (inr (high, m)) = inr (rw (is, low, high) refl, λ e l2 m2. omega (arith, m, m2))

        by_least : ((nat_le least n ≡ true) × (least ≤ n)) ⊎ ((nat_le least n ≡ false) × (n < least)) → Tells least most word n
        by_least (inl (low, l)) = by_most low l (leb_tells n most)
        by_least (inr (low, l)) = inr (rw (is, low) refl, λ e l2 m2. omega (arith, l, l2))

-- the number of a word that is its decimal
pub is_number : (least most : ℕ) (word : List ℕ) (n : ℕ) → n < 2 ^ 64 → word ≡ decimal n → least ≤ n → n ≤ most → number_within least most word ≡ Some n
is_number least most word n small is low high = by_test (number_tells least most word n)
  where
    value : digits_value 10 word ≡ n
    value = ap (digits_value 10) is ∙ (decimal_is_IsNumeral n small).1

    by_test : Tells least most word n → number_within least most word ≡ Some n
    by_test (inl (found, _, _, _)) = ap (number_if least most word) value ∙ found
    by_test (inr (_, differs)) = absurd (differs is low high)

-- a word that is read as no number, or as one of another text or outside the limits, is none
pub no_number : {E : Type 0} (least most : ℕ) (word : List ℕ) (r : Result ℕ E) → most < 2 ^ 64 → ParsesUnsigned 64 10 word r
    → ((n : ℕ) → r ≡ Ok n → word ≡ decimal n → least ≤ n → n ≤ most → ⊥) → None ≡ number_within least most word
no_number least most word r small parses never = by_test (number_tells least most word (digits_value 10 word))
  where
    by_test : Tells least most word (digits_value 10 word) → None ≡ number_within least most word
    by_test (inl (_, is, low, high)) =
        let fits : digits_value 10 word < 2 ^ 64 = omega (arith, high, small) in
        absurd (never (digits_value 10 word) (parse-decimal 64 (digits_value 10 word) word r fits fits is parses) is low high)
    by_test (inr (missing, _)) = sym missing

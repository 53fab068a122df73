-- What is found in a list.
use Rattle.std.proofs.Common.{◌≡◌, ◌⊎◌, inl, inr, ℕ, zero, suc, List, [], ◌∷◌, ◌++◌, length, Some, None, refl, sym, ◌∙◌, ap, subst}
use Rattle.std.specs.Prelude.{slice_get, get_or}

-- what is found is one
pub found_one : {A : Type 0} (xs : List A) (n : ℕ) (a b : A) → slice_get xs n ≡ Some a → slice_get xs n ≡ Some b → a ≡ b
found_one xs n a b p q = let h : Some a ≡ Some b = sym p ∙ q in cc

-- what is found where one more stands at the end is an earlier one, or the last
pub found_more : {A : Type 0} (xs : List A) (last : A) (n : ℕ) (a : A) → slice_get (xs ++ last ∷ []) n ≡ Some a →
    (slice_get xs n ≡ Some a) ⊎ ((n ≡ length xs) × (last ≡ a))
found_more [] last zero a e = inr (refl, cc)
found_more [] last (suc n) a e = absurd cc
found_more (x ∷ xs) last zero a e = inl e
found_more (x ∷ xs) last (suc n) a e = found_behind (found_more xs last n a e)
  where
    found_behind : (slice_get xs n ≡ Some a) ⊎ ((n ≡ length xs) × (last ≡ a)) → (slice_get (x ∷ xs) (suc n) ≡ Some a) ⊎ ((suc n ≡ length (x ∷ xs)) × (last ≡ a))
    found_behind (inl h) = inl h
    found_behind (inr h) = inr (ap suc h.0, h.1)

-- what is found stays where more stand behind
pub found_front : {A : Type 0} (xs ys : List A) (n : ℕ) (a : A) → slice_get xs n ≡ Some a → slice_get (xs ++ ys) n ≡ Some a
found_front [] ys n a e = absurd cc
found_front (x ∷ xs) ys zero a e = e
found_front (x ∷ xs) ys (suc n) a e = found_front xs ys n a e

pub found_last : {A : Type 0} (xs : List A) (a : A) → slice_get (xs ++ a ∷ []) (length xs) ≡ Some a
found_last [] a = refl
found_last (x ∷ xs) a = found_last xs a

-- where nothing is found, the answer is the one that was given
pub none_found : {A : Type 0} (xs looked : List A) (n : ℕ) (d : A) → looked ≡ xs → None ≡ slice_get looked n → d ≡ get_or xs n d
none_found {A = A} xs looked n d same e = subst (λ (zs : List A). d ≡ get_or zs n d) same (past looked n e)
  where
    past : (zs : List A) (k : ℕ) → None ≡ slice_get zs k → d ≡ get_or zs k d
    past [] k e = refl
    past (z ∷ zs) zero e = absurd cc
    past (z ∷ zs) (suc k) e = past zs k e

-- Lists of which one item is changed, or that have one item more.
use Rattle.std.proofs.Common.{◌≡◌, ◌≢◌, ◌⊎◌, inl, inr, ℕ, zero, suc, List, [], ◌∷◌, ◌++◌, length, Some, slice_get, slice_set, refl, ap, arith}

-- an item of a list with one item more
pub last_or_before : {A : Type 0} (xs : List A) (x : A) (k : ℕ) (y : A) → slice_get (xs ++ x ∷ []) k ≡ Some y → (slice_get xs k ≡ Some y) ⊎ ((k ≡ length xs) × (y ≡ x))
last_or_before [] x zero y e = inr (refl, cc)
last_or_before [] x (suc k) y e = absurd cc
last_or_before (z ∷ xs) x zero y e = inl e
last_or_before (z ∷ xs) x (suc k) y e = elim (last_or_before xs x k y e) [
  | inl before ↦ inl before
  | inr last ↦ inr (ap suc last.0, last.1)
]

-- an item of a list of which one was changed
pub changed_or_kept : {A : Type 0} (xs : List A) (r : ℕ) (x : A) (q : ℕ) (y : A) → slice_get (slice_set xs r x) q ≡ Some y → ((q ≡ r) × (y ≡ x)) ⊎ ((q ≢ r) × (slice_get xs q ≡ Some y))
changed_or_kept [] r x q y e = absurd cc
changed_or_kept (z ∷ xs) zero x zero y e = inl (refl, cc)
changed_or_kept (z ∷ xs) zero x (suc q) y e = inr (λ wrong. absurd (omega arith), e)
changed_or_kept (z ∷ xs) (suc r) x zero y e = inr (λ wrong. absurd (omega arith), e)
changed_or_kept (z ∷ xs) (suc r) x (suc q) y e = elim (changed_or_kept xs r x q y e) [
  | inl changed ↦ inl (ap suc changed.0, changed.1)
  | inr kept ↦ inr (λ wrong. kept.0 (omega arith), kept.1)
]

-- as many items as before
pub length_set : {A : Type 0} (xs : List A) (r : ℕ) (x : A) → length (slice_set xs r x) ≡ length xs
length_set [] r x = refl
length_set (z ∷ xs) zero x = refl
length_set (z ∷ xs) (suc r) x = ap suc (length_set xs r x)

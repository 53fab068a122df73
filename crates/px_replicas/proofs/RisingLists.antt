-- Lists of rising numbers.
use Rattle.std.proofs.Common.{◌≡◌, ◌⊎◌, ℕ, zero, suc, ◌<◌, List, [], ◌∷◌, ◌++◌, length, get_or, refl, sym, subst, inl, inr, arith, Contains, AllPairs}

-- the number is one of the list
abbrev pub In : List ℕ → ℕ → Type 0
In [] n = ⊥
In (x ∷ xs) n = (n ≡ x) ⊎ In xs n

-- each number is below those behind it
abbrev pub Rises : List ℕ → Type 0
Rises [] = Unit {0}
Rises (x ∷ xs) = ((y : ℕ) → In xs y → x < y) × Rises xs

pub in_contains : (xs : List ℕ) (n : ℕ) → In xs n → Contains xs n
in_contains (x ∷ xs) n (inl e) = (0, omega arith, sym e)
in_contains (x ∷ xs) n (inr there) = let at = in_contains xs n there in (suc at.0, omega (arith, at.1), at.2)
in_contains [] n h = absurd h

pub contains_in : (xs : List ℕ) (n : ℕ) → Contains xs n → In xs n
contains_in xs n at = by xs n at.0 at.1 at.2
  where
    by : (xs : List ℕ) (n k : ℕ) → k < length xs → get_or xs k n ≡ n → In xs n
    by [] n k within e = absurd (omega arith)
    by (x ∷ xs) n zero within e = inl (sym e)
    by (x ∷ xs) n (suc k) within e = inr (by xs n k (omega arith) e)

in_at : (xs : List ℕ) (i d : ℕ) → i < length xs → In xs (get_or xs i d)
in_at [] i d within = absurd (omega arith)
in_at (x ∷ xs) zero d within = inl refl
in_at (x ∷ xs) (suc i) d within = inr (in_at xs i d (omega arith))

pub pairs_rise : (xs : List ℕ) → Rises xs → AllPairs (λ (m n : ℕ). m < n) xs
pairs_rise [] h = λ i j d lt within. absurd (omega arith)
pairs_rise (x ∷ xs) h = by (pairs_rise xs h.1)
  where
    by : AllPairs (λ (m n : ℕ). m < n) xs → (i j d : ℕ) → i < j → j < length (x ∷ xs) → get_or (x ∷ xs) i d < get_or (x ∷ xs) j d
    by rest i zero d lt within = absurd (omega arith)
    by rest zero (suc j) d lt within = h.0 (get_or xs j d) (in_at xs j d (omega arith))
    by rest (suc i) (suc j) d lt within = rest i j d (omega arith) (omega arith)

pub rise_from_pairs : (xs : List ℕ) → AllPairs (λ (m n : ℕ). m < n) xs → Rises xs
rise_from_pairs [] h = tt
rise_from_pairs (x ∷ xs) h = (
  λ y there. let at = in_contains xs y there in subst (λ (n : ℕ). x < n) at.2 (h 0 (suc at.0) y (omega arith) (omega (arith, at.1))),
  rise_from_pairs xs (λ i j d lt within. h (suc i) (suc j) d (omega arith) (omega arith)),
)

-- the same numbers
pub record Same (xs ys : List ℕ) : Type 0 where
  pub there : (n : ℕ) → In xs n → In ys n
  pub back : (n : ℕ) → In ys n → In xs n

in_rest : (x : ℕ) (xs ys : List ℕ) → ((y : ℕ) → In xs y → x < y) → ((n : ℕ) → In (x ∷ xs) n → In (x ∷ ys) n) → (n : ℕ) → In xs n → In ys n
in_rest x xs ys above there n h = elim (there n (inr h)) [
  | inl e ↦ let lt : x < n = above n h in absurd (omega (arith, lt, e))
  | inr k ↦ k
]

-- two rising lists of the same numbers are equal
pub rising_is_one : (xs ys : List ℕ) → Rises xs → Rises ys → Same xs ys → xs ≡ ys
rising_is_one [] [] p q same = refl
rising_is_one [] (y ∷ ys) p q same = absurd (same.back y (inl refl))
rising_is_one (x ∷ xs) [] p q same = absurd (same.there x (inl refl))
rising_is_one (x ∷ xs) (y ∷ ys) p q same =
    let heads : x ≡ y = first (same.there x (inl refl)) (same.back y (inl refl)) in
    let there : (n : ℕ) → In (x ∷ xs) n → In (x ∷ ys) n = subst (λ (z : ℕ). (n : ℕ) → In (x ∷ xs) n → In (z ∷ ys) n) (sym heads) same.there in
    let back : (n : ℕ) → In (x ∷ ys) n → In (x ∷ xs) n = subst (λ (z : ℕ). (n : ℕ) → In (z ∷ ys) n → In (x ∷ xs) n) (sym heads) same.back in
    let above : (n : ℕ) → In ys n → x < n = subst (λ (z : ℕ). (n : ℕ) → In ys n → z < n) (sym heads) q.0 in
    let rest : xs ≡ ys = rising_is_one xs ys p.1 q.1 (record { there = in_rest x xs ys p.0 there; back = in_rest x ys xs above back }) in
    λ i. heads i ∷ rest i
  where
    first : In (y ∷ ys) x → In (x ∷ xs) y → x ≡ y
    first (inl e) h = e
    first (inr h) (inl e) = sym e
    first (inr h) (inr k) = let one : y < x = q.0 x h in let other : x < y = p.0 y k in absurd (omega arith)

pub in_append : (xs ys : List ℕ) (n : ℕ) → In (xs ++ ys) n → In xs n ⊎ In ys n
in_append [] ys n h = inr h
in_append (x ∷ xs) ys n (inl e) = inl (inl e)
in_append (x ∷ xs) ys n (inr h) = elim (in_append xs ys n h) [ inl k ↦ inl (inr k) | inr k ↦ inr k ]

pub in_front : (xs ys : List ℕ) (n : ℕ) → In xs n → In (xs ++ ys) n
in_front [] ys n h = absurd h
in_front (x ∷ xs) ys n (inl e) = inl e
in_front (x ∷ xs) ys n (inr h) = inr (in_front xs ys n h)

pub in_back : (xs ys : List ℕ) (n : ℕ) → In ys n → In (xs ++ ys) n
in_back [] ys n h = h
in_back (x ∷ xs) ys n h = inr (in_back xs ys n h)

-- behind a rising list, a number that is above all of it
pub rises_push : (xs : List ℕ) (n : ℕ) → Rises xs → ((m : ℕ) → In xs m → m < n) → Rises (xs ++ n ∷ [])
rises_push [] n h below = (λ y none. absurd none, tt)
rises_push (x ∷ xs) n h below = (by, rises_push xs n h.1 (λ m there. below m (inr there)))
  where
    by : (y : ℕ) → In (xs ++ n ∷ []) y → x < y
    by y there = elim (in_append xs (n ∷ []) y there) [
      | inl k ↦ h.0 y k
      | inr k ↦ last y k
    ]
      where
        last : (y : ℕ) → In (n ∷ []) y → x < y
        last y (inl e) = let lt : x < n = below x (inl refl) in omega arith
        last y (inr none) = absurd none

-- each number in front of a number in a rising list is below it
pub below_in : (xs ys : List ℕ) (n m : ℕ) → Rises (xs ++ n ∷ ys) → In xs m → m < n
below_in [] ys n m h there = absurd there
below_in (x ∷ xs) ys n m h (inl e) = let lt : x < n = h.0 n (in_back xs (n ∷ ys) n (inl refl)) in omega arith
below_in (x ∷ xs) ys n m h (inr there) = below_in xs ys n m h.1 there

-- the front of a rising list rises
pub rises_front : (xs ys : List ℕ) → Rises (xs ++ ys) → Rises xs
rises_front [] ys h = tt
rises_front (x ∷ xs) ys h = (λ y there. h.0 y (in_front xs ys y there), rises_front xs ys h.1)

-- in front of the back of a rising list, a number that is above the front and below the back's first
pub rises_between : (xs ys : List ℕ) (n m : ℕ) → Rises (xs ++ m ∷ ys) → ((k : ℕ) → In xs k → k < n) → n < m → Rises (xs ++ n ∷ m ∷ ys)
rises_between [] ys n m h below lt = (by, h)
  where
    by : (y : ℕ) → In (m ∷ ys) y → n < y
    by y (inl e) = omega arith
    by y (inr there) = let above : m < y = h.0 y there in omega arith
rises_between (x ∷ xs) ys n m h below lt = (by, rises_between xs ys n m h.1 (λ k there. below k (inr there)) lt)
  where
    by : (y : ℕ) → In (xs ++ n ∷ m ∷ ys) y → x < y
    by y there = elim (in_append xs (n ∷ m ∷ ys) y there) [
      | inl k ↦ h.0 y (in_front xs (m ∷ ys) y k)
      | inr k ↦ back y k
    ]
      where
        back : (y : ℕ) → In (n ∷ m ∷ ys) y → x < y
        back y (inl e) = let lt : x < n = below x (inl refl) in omega arith
        back y (inr k) = h.0 y (in_back xs (m ∷ ys) y k)

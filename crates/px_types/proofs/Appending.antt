-- What stands in a list that grows at its end, and facts of each item with its number.
use Rattle.std.proofs.Common.{◌≡◌, ◌⊎◌, inl, inr, ℕ, zero, suc, ◌+◌, ◌<◌, List, [], ◌∷◌, ◌++◌, length, drop, Option, Some, None, refl, sym, ap, subst, arith}
use Rattle.std.specs.Prelude.{slice_get}
use Rattle.std.specs.List.{All}
use Rattle.std.specs.Option.{IsSomeAnd}
use Rattle.std.proofs.lemmas.List.Elements.{All-head, All-tail}

pub one_item : {X : Type 0} (x y : X) → Some x ≡ Some y → x ≡ y
one_item x y e = cc

pub no_item : {X : Type 0} (x : X) → None ≡ Some x → ⊥
no_item x e = cc

-- A value is there, and this holds of it.
pub record There {X : Type 0} (o : Option X) (Holds : X → Type 0) : Type 0 where
  pub item : X
  pub is : o ≡ Some item
  pub holds : Holds item

pub there_of : {X : Type 0} (o : Option X) (Holds : X → Type 0) → IsSomeAnd o Holds → There o Holds
there_of None Holds h = absurd h
there_of (Some x) Holds h = record { item = x; is = refl; holds = h }

pub some_and : {X : Type 0} (o : Option X) (Holds : X → Type 0) (x : X) → o ≡ Some x → Holds x → IsSomeAnd o Holds
some_and {X} o Holds x e h = subst (λ (p : Option X). IsSomeAnd p Holds) (sym e) h

-- what stood in the list stands there still
pub get_left : {X : Type 0} (xs ys : List X) (i : ℕ) (x : X) → slice_get xs i ≡ Some x → slice_get (xs ++ ys) i ≡ Some x
get_left [] ys i x e = absurd (no_item x e)
get_left (y ∷ xs) ys zero x e = e
get_left (y ∷ xs) ys (suc i) x e = get_left xs ys i x e

pub get_last : {X : Type 0} (xs : List X) (x : X) → slice_get (xs ++ x ∷ []) (length xs) ≡ Some x
get_last [] x = refl
get_last (y ∷ xs) x = get_last xs x

-- The item stands so far behind the first n.
pub record Behind {X : Type 0} (n : ℕ) (ys : List X) (i : ℕ) (x : X) : Type 0 where
  pub k : ℕ
  pub place : i ≡ n + k
  pub stands : slice_get ys k ≡ Some x

-- an item stands in the one list, or in the other
pub get_cases : {X : Type 0} (xs ys : List X) (i : ℕ) (x : X) → slice_get (xs ++ ys) i ≡ Some x → (slice_get xs i ≡ Some x) ⊎ Behind (length xs) ys i x
get_cases [] ys i x e = let place : i ≡ 0 + i = omega arith in inr (record { k = i; place = place; stands = e })
get_cases (y ∷ xs) ys zero x e = inl e
get_cases {X} (y ∷ xs) ys (suc i) x e = go (get_cases xs ys i x e)
  where
    go : (slice_get xs i ≡ Some x) ⊎ Behind (length xs) ys i x → (slice_get xs i ≡ Some x) ⊎ Behind (suc (length xs)) ys (suc i) x
    go (inl at) = inl at
    go (inr b) =
        let before : i ≡ length xs + b.k = b.place in
        let place : suc i ≡ suc (length xs) + b.k = omega arith in
        inr (record { k = b.k; place = place; stands = b.stands })

-- The item is the last one.
pub record IsLast {X : Type 0} (n : ℕ) (y : X) (i : ℕ) (x : X) : Type 0 where
  pub place : i ≡ n
  pub same : y ≡ x

pub last_cases : {X : Type 0} (xs : List X) (y : X) (i : ℕ) (x : X) → slice_get (xs ++ y ∷ []) i ≡ Some x → (slice_get xs i ≡ Some x) ⊎ IsLast (length xs) y i x
last_cases {X} xs y i x e = go (get_cases xs (y ∷ []) i x e)
  where
    alone : (k : ℕ) → i ≡ length xs + k → slice_get (y ∷ []) k ≡ Some x → IsLast (length xs) y i x
    alone zero place stands = record { place = omega arith; same = one_item y x stands }
    alone (suc k) place stands = absurd (no_item x stands)

    go : (slice_get xs i ≡ Some x) ⊎ Behind (length xs) (y ∷ []) i x → (slice_get xs i ≡ Some x) ⊎ IsLast (length xs) y i x
    go (inl at) = inl at
    go (inr b) = inr (alone b.k b.place b.stands)

-- A fact of each item and its number.
pub record Each {X : Type 0} (Holds : ℕ → X → Type 0) (xs : List X) : Type 0 where
  pub at : (i : ℕ) (x : X) → slice_get xs i ≡ Some x → Holds i x

pub each_none : {X : Type 0} (Holds : ℕ → X → Type 0) → Each Holds []
each_none Holds = record { at = λ i x e. absurd (no_item x e) }

pub each_pushed : {X : Type 0} (Holds : ℕ → X → Type 0) (xs : List X) (y : X) → Each Holds xs → Holds (length xs) y → Each Holds (xs ++ y ∷ [])
each_pushed {X} Holds xs y all here = record { at = λ i x e. go i x (last_cases xs y i x e) }
  where
    go : (i : ℕ) (x : X) → (slice_get xs i ≡ Some x) ⊎ IsLast (length xs) y i x → Holds i x
    go i x (inl at) = all.at i x at
    go i x (inr last) = subst (λ (n : ℕ). Holds n x) (sym last.place) (subst (λ (z : X). Holds (length xs) z) last.same here)

pub each_weaker : {X : Type 0} (Holds Says : ℕ → X → Type 0) (xs : List X) → ((i : ℕ) (x : X) → Holds i x → Says i x) → Each Holds xs → Each Says xs
each_weaker Holds Says xs weaker all = record { at = λ i x e. weaker i x (all.at i x e) }

-- a fact of all items holds of the one at a place
pub all_at : {X : Type 0} (Holds : X → Type 0) (xs : List X) (i : ℕ) (x : X) → slice_get xs i ≡ Some x → All Holds xs → Holds x
all_at Holds [] i x e all = absurd (no_item x e)
all_at Holds (y ∷ xs) zero x e all = subst Holds (one_item y x e) (All-head Holds y xs all)
all_at Holds (y ∷ xs) (suc i) x e all = all_at Holds xs i x e (All-tail Holds y xs all)

pub item_below : {X : Type 0} (xs : List X) (i : ℕ) → i < length xs → (x : X) × (slice_get xs i ≡ Some x)
item_below [] i below = absurd (omega arith)
item_below (x ∷ xs) zero below = (x, refl)
item_below (x ∷ xs) (suc i) below = item_below xs i (omega arith)

-- the items from one on
pub drop_at : {X : Type 0} (xs : List X) (i : ℕ) (x : X) → slice_get xs i ≡ Some x → drop i xs ≡ x ∷ drop (suc i) xs
drop_at [] i x e = absurd (no_item x e)
drop_at (y ∷ xs) zero x e = ap (λ z. z ∷ xs) (one_item y x e)
drop_at (y ∷ xs) (suc i) x e = drop_at xs i x e

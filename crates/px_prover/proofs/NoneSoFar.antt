-- A walk over a list to the first item that has what is looked for: none before this place has it.
use Rattle.std.proofs.Common.{◌≡◌, ◌<◌, ◌≤◌, ◌+◌, ◌⊎◌, inl, inr, ⊎_elim, ℕ, List, length, get_or, Some, slice_get, sym, ap, ◌∙◌, arith, subst, Bool, true, false, nat_eq, eqb-true, eq-eqb, refl, IsTrue, ◌↔◌}
use Rattle.std.proofs.lemmas.Option.{slice_get-get_or, slice_get_within}

-- no item before this place has it
pub record NoneBelow {X : Type 0} (Has : X → Type 0) (xs : List X) (count : ℕ) : Type 0 where
  pub none : (i : ℕ) (x : X) → i < count → slice_get xs i ≡ Some x → ¬ Has x

pub none_start : {X : Type 0} (Has : X → Type 0) (xs : List X) → NoneBelow Has xs 0
none_start Has xs = record { none = λ i x below found has. omega (arith, below) }

-- the item at a place, as it is read
pub read_at : {X : Type 0} (xs : List X) (i : ℕ) (x : X) → i < length xs → x ≡ get_or xs i x → slice_get xs i ≡ Some x
read_at xs i x within is = slice_get-get_or xs i x within ∙ ap (λ (y : _). Some y) (sym is)

some_is : {X : Type 0} {x y : X} → Some x ≡ Some y → x ≡ y
some_is e = cc

-- a test is not true and false
pub not_both : {b : Bool} → b ≡ false → b ≡ true → ⊥
not_both a e = cc

true_is_not_false : true ≡ false → ⊥
true_is_not_false e = cc

-- two numbers are one, or not
pub cases_eq : (a b : ℕ) → (a ≡ b) ⊎ (a ≡ b → ⊥)
cases_eq a b = by_test (nat_eq a b) refl
  where
    by_test : (s : Bool) → nat_eq a b ≡ s → (a ≡ b) ⊎ (a ≡ b → ⊥)
    by_test true e = inl (eqb-true a b e)
    by_test false e = inr (λ same. true_is_not_false (sym (eq-eqb a b same) ∙ e))

-- one more that has it not
pub none_next : {X : Type 0} (Has : X → Type 0) (xs : List X) (n : ℕ) (x : X) → NoneBelow Has xs n → n < length xs → x ≡ get_or xs n x → ¬ Has x → NoneBelow Has xs (n + 1)
none_next Has xs n x before within is lacks = record {
  none = λ i y below found. ⊎_elim
      (λ same. λ has. lacks (subst Has (some_is (sym found ∙ ap (λ (k : ℕ). slice_get xs k) same ∙ read_at xs n x within is)) has))
      (λ other. before.none i y (omega (arith, below, other)) found)
      (cases_eq i n);
}

-- the same, where what is there has it not
pub none_skip : {X : Type 0} (Has : X → Type 0) (xs : List X) (n : ℕ) → NoneBelow Has xs n → ((x : X) → slice_get xs n ≡ Some x → ¬ Has x) → NoneBelow Has xs (n + 1)
none_skip Has xs n before lacks = record {
  none = λ i y below found. ⊎_elim
      (λ same. lacks y (sym (ap (λ (k : ℕ). slice_get xs k) same) ∙ found))
      (λ other. before.none i y (omega (arith, below, other)) found)
      (cases_eq i n);
}

-- none at all
pub none_end : {X : Type 0} (Has : X → Type 0) (xs : List X) (n : ℕ) → NoneBelow Has xs n → length xs ≤ n → (i : ℕ) (x : X) → slice_get xs i ≡ Some x → ¬ Has x
none_end Has xs n before past i x found = let within = slice_get_within xs i x found in before.none i x (omega (arith, within, past)) found

-- what is told of the item at a place
pub told_of : {X : Type 0} (Has : X → Type 0) (xs : List X) (n : ℕ) (answer : Bool) → (x : X) × (slice_get xs n ≡ Some x) × (IsTrue answer ↔ Has x) → IsTrue answer ↔ ((x : X) × (slice_get xs n ≡ Some x) × Has x)
told_of Has xs n answer told = (λ yes. (told.0, told.1, told.2.0 yes), λ found. told.2.1 (subst Has (some_is (sym found.1 ∙ told.1)) found.2))

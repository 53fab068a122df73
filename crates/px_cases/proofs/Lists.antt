-- What is found in a list, and what holds of each element, along a loop over one.
use Rattle.std.proofs.Common.{◌≡◌, ◌↔◌, IsTrue, Bool, true, false, refl, ◌<◌, ◌≤◌, ◌+◌, ℕ, zero, suc, List, [], ◌∷◌, ◌++◌, map, length, take, drop, get_or, slice_get, Some, sym, subst, ap, ◌∙◌, All}
use Rattle.std.proofs.lemmas.List.Elements.{All-more, All-tail}
use Rattle.std.proofs.lemmas.List.{take_all, length-map, get_or-map}

-- what is found is one
pub found_one : {A : Type 0} (xs : List A) (n : ℕ) (a b : A) → slice_get xs n ≡ Some a → slice_get xs n ≡ Some b → a ≡ b
found_one xs n a b p q = let h : Some a ≡ Some b = sym p ∙ q in cc

-- one more element
pub all_one_more : {X : Type 0} (P : X → Type 0) (xs : List X) (i : ℕ) (x : X) → i < length xs → x ≡ get_or xs i x → All P (take i xs) → P x → All P (take (i + 1) xs)
all_one_more P xs i x within is before here = All-more P xs i x within before (subst P is here)

-- all elements
pub all_whole : {X : Type 0} (P : X → Type 0) (xs : List X) (i : ℕ) → length xs ≤ i → All P (take i xs) → All P xs
all_whole P xs i past all = subst (All P) (take_all i xs past) all

-- what is false is not true
pub both_false : (b : Bool) → b ≡ false → ¬ IsTrue b
both_false b is_false is_true = let told : false ≡ true = sym is_false ∙ is_true in cc

-- one element of which it does not hold
pub one_fails : {X : Type 0} (P : X → Type 0) (xs : List X) (i : ℕ) (x : X) (answer : Bool) → i < length xs → x ≡ get_or xs i x → (IsTrue answer ↔ P x) → answer ≡ false → IsTrue false ↔ All P xs
one_fails P xs i x answer within is exact fails = (λ (told : IsTrue false). absurd (both_false false refl told), λ (all : All P xs). absurd (both_false answer fails (exact.1 (subst P (sym is) (all i x within)))))

-- what holds of each image holds of each element by its image
pub all_unmapped : {X Y : Type 0} (P : Y → Type 0) (f : X → Y) (xs : List X) → All P (map f xs) → All (λ (x : X). P (f x)) xs
all_unmapped P f xs all k d within =
    let below : k < length (map f xs) = rw length-map within in
    subst P (get_or-map f xs k d (f d) within) (all k (f d) below)

-- what holds of all of both lists holds of all of the second
pub all_behind : {X : Type 0} (P : X → Type 0) (xs ys : List X) → All P (xs ++ ys) → All P ys
all_behind P [] ys all = all
all_behind P (x ∷ xs) ys all = all_behind P xs ys (All-tail P x (xs ++ ys) all)

-- what stands at a number begins the rest from there on
pub drop_found : {X : Type 0} (xs : List X) (i : ℕ) (x : X) → slice_get xs i ≡ Some x → drop i xs ≡ x ∷ drop (suc i) xs
drop_found [] i x found = absurd cc
drop_found (y ∷ ys) zero x found = let same : y ≡ x = cc in ap (λ z. z ∷ ys) same
drop_found (y ∷ ys) (suc i) x found = drop_found ys i x found

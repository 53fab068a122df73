-- What is found in a list, and what holds of each element, along a loop over one.
use Rattle.std.proofs.Common.{◌≡◌, ◌<◌, ◌≤◌, ◌+◌, ℕ, List, length, take, get_or, slice_get, Some, sym, subst, ◌∙◌, All}
use Rattle.std.proofs.lemmas.List.Elements.{All-more}
use Rattle.std.proofs.lemmas.List.{take_all}

-- what is found is one
pub found_one : {A : Type 0} (xs : List A) (n : ℕ) (a b : A) → slice_get xs n ≡ Some a → slice_get xs n ≡ Some b → a ≡ b
found_one xs n a b p q = let h : Some a ≡ Some b = sym p ∙ q in cc

-- one more element
pub all_one_more : {X : Type 0} (P : X → Type 0) (xs : List X) (i : ℕ) (x : X) → i < length xs → x ≡ get_or xs i x → All P (take i xs) → P x → All P (take (i + 1) xs)
all_one_more P xs i x within is before here = All-more P xs i x within before (subst P is here)

-- all elements
pub all_whole : {X : Type 0} (P : X → Type 0) (xs : List X) (i : ℕ) → length xs ≤ i → All P (take i xs) → All P xs
all_whole P xs i past all = subst (All P) (take_all i xs past) all

-- What holds of each element of two lists in a row.
use Rattle.std.proofs.Common.{◌≡◌, ℕ, ◌+◌, ◌<◌, List, ◌++◌, length, get_or, Some, slice_get, refl, subst, arith, length-append}
use Rattle.std.proofs.lemmas.Option.{get_or_from_slice_get, slice_get_within, slice_get_read}
use Rattle.std.proofs.lemmas.List.{get_or_append_left, get_or-append-add}
use Rattle.std.specs.List.{All}

module _ {X : Type 0} (P : X → Type 0) (xs ys : List X) (all : All P (xs ++ ys)) where
  -- of both, so of the first
  pub front_all : All P xs
  front_all k d below = subst P (get_or_append_left xs ys d k below) (all k d (omega (arith, length-append xs ys)))

  -- and of the second
  pub back_all : All P ys
  back_all k d below = subst P (get_or-append-add xs ys k d) (all (length xs + k) d (omega (arith, length-append xs ys)))

-- of each element, so of the one with this number
pub all_at : {X : Type 0} (P : X → Type 0) (xs : List X) (i : ℕ) (x : X) → All P xs → slice_get xs i ≡ Some x → P x
all_at P xs i x all at = subst P (get_or_from_slice_get xs i x x at) (all i x (slice_get_within xs i x at))

-- the element that a loop over a lent list reads
pub item_at : {X : Type 0} (xs lent : List X) (i : ℕ) (x : X) → lent ≡ xs → i < length lent → x ≡ get_or lent i x → slice_get xs i ≡ Some x
item_at xs lent i x is below read = subst (λ (ys : List _). slice_get ys i ≡ Some x) is (slice_get_read lent (length lent) i x refl below read)

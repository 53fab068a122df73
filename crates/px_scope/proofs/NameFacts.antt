-- Names in a table, as texts.
use Rattle.std.proofs.Common.{◌≡◌, ℕ, ◌<◌, ◌≤◌, ◌^◌, Bool, not, ◌||◌, List, [], ◌∷◌, map, Option, Some, None, refl, ap}
use Rattle.std.specs.Option.{option_and_then}
use Rattle.px_scope.specs.Names.{number}
use Rattle.std.specs.List.{list_any, position, prefix_len}
use Rattle.std.proofs.lemmas.List.{length-map}
use Rattle.std.proofs.lemmas.Bool.{lt-ltb, le-ltb}

module _ {X : Type 0} (f : X → List ℕ) (p : List ℕ → Bool) where
  -- a test of texts is one of what has the texts
  pub list_any_map : (xs : List X) → list_any p (map f xs) ≡ list_any (λ x. p (f x)) xs
  list_any_map [] = refl
  list_any_map (x ∷ xs) = ap (λ b. p (f x) || b) (list_any_map xs)

  prefix_len_map : (xs : List X) → prefix_len (λ y. not (p y)) (map f xs) ≡ prefix_len (λ x. not (p (f x))) xs
  prefix_len_map [] = refl
  prefix_len_map (x ∷ xs) = rw (prefix_len_map xs) refl

  -- the place of a text is that of what has it
  pub position_map : (xs : List X) → position p (map f xs) ≡ position (λ x. p (f x)) xs
  position_map xs = rw (prefix_len_map xs, length-map xs f) refl

  -- what is found of a name in a table whose texts are these
  pub found_in_table : (xs : List X) (names : List (List ℕ)) → map f xs ≡ names → (found : Option ℕ) → found ≡ position (λ x. p (f x)) xs → option_and_then number found ≡ option_and_then number (position p names)
  found_in_table xs names are found is = rw (← are, position_map xs, is) refl

-- a number below 2^32
pub number_below : (n : ℕ) → n < 2 ^ 32 → number n ≡ Some n
number_below n below = rw (lt-ltb n (2 ^ 32) below) refl

-- a number that is not
pub number_above : (n : ℕ) → 2 ^ 32 ≤ n → number n ≡ None
number_above n above = rw (le-ltb n (2 ^ 32) above) refl

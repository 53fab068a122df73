-- What is left of a number of nodes after the items of a list, one by one.
use Rattle.std.proofs.Common.{◌≡◌, ℕ, zero, suc, ◌+◌, ◌<◌, ◌≤◌, max, List, [], ◌∷◌, length, map, get_or, take, sym, ◌∙◌, ap, arith, add-one}
use Rattle.std.specs.Prelude.{sum}
use Rattle.std.proofs.lemmas.List.Sums.{sum_by-cons}
use Rattle.px_base.specs.Largest.{largest}

sum-map-cons : {X : Type 0} (f : X → ℕ) (x : X) (xs : List X) → sum (map f (x ∷ xs)) ≡ f x + sum (map f xs)
sum-map-cons f x xs = sum_by-cons (λ n. n) (f x) (map f xs)

sum-take-suc : {X : Type 0} (f : X → ℕ) (xs : List X) (i : ℕ) (x : X) → i < length xs → sum (map f (take (suc i) xs)) ≡ sum (map f (take i xs)) + f (get_or xs i x)
sum-take-suc f [] i x h = absurd (omega arith)
sum-take-suc f (y ∷ ys) zero x h = omega arith
sum-take-suc f (y ∷ ys) (suc i) x h =
    let h' : i < length ys = omega arith in
    omega (arith, sum-take-suc f ys i x h', sum-map-cons f y (take (suc i) ys), sum-map-cons f y (take i ys))

sum-take-le : {X : Type 0} (f : X → ℕ) (xs : List X) (i : ℕ) (x : X) → i < length xs → sum (map f (take i xs)) + f (get_or xs i x) ≤ sum (map f xs)
sum-take-le f [] i x h = absurd (omega arith)
sum-take-le f (y ∷ ys) zero x h = omega (arith, sum-map-cons f y ys)
sum-take-le f (y ∷ ys) (suc i) x h =
    let h' : i < length ys = omega arith in
    omega (arith, sum-take-le f ys i x h', sum-map-cons f y ys, sum-map-cons f y (take i ys))

largest-take-suc : {X : Type 0} (g : X → ℕ) (xs : List X) (i : ℕ) (x : X) → i < length xs → largest (map g (take (suc i) xs)) ≡ max (largest (map g (take i xs))) (g (get_or xs i x))
largest-take-suc g [] i x h = absurd (omega arith)
largest-take-suc g (y ∷ ys) zero x h = omega arith
largest-take-suc g (y ∷ ys) (suc i) x h =
    let h' : i < length ys = omega arith in
    omega (arith, largest-take-suc g ys i x h')

largest-get_or-le : {X : Type 0} (g : X → ℕ) (xs : List X) (i : ℕ) (x : X) → i < length xs → g (get_or xs i x) ≤ largest (map g xs)
largest-get_or-le g [] i x h = absurd (omega arith)
largest-get_or-le g (y ∷ ys) zero x h = omega arith
largest-get_or-le g (y ∷ ys) (suc i) x h =
    let h' : i < length ys = omega arith in
    omega (arith, largest-get_or-le g ys i x h')

-- Of a list, with the size and the depth of each item, so many nodes were left, and no item was too deep, up to item i.
module _ {X : Type 0} (f g : X → ℕ) (xs : List X) (i : ℕ) (x : X) (left nodes most : ℕ) (below : i < length xs) (is : x ≡ get_or xs i x) (sum_is : left + sum (map f (take i xs)) ≡ nodes) (depth_is : largest (map g (take i xs)) ≤ most) where
  size_is : f x ≡ f (get_or xs i x)
  size_is = ap f is

  height_is : g x ≡ g (get_or xs i x)
  height_is = ap g is

  -- item i fits too
  pub room_next : (after : ℕ) → (after + f x ≡ left) × (g x ≤ most) → (after + sum (map f (take (i + 1) xs)) ≡ nodes) × (largest (map g (take (i + 1) xs)) ≤ most)
  room_next after fits = rw add-one (
    omega (arith, sum-take-suc f xs i x below, size_is),
    omega (arith, largest-take-suc g xs i x below, height_is),
  )

  -- item i doesn't fit, so the list doesn't
  pub no_room : ¬ ((f x ≤ left) × (g x ≤ most)) → ¬ ((sum (map f xs) ≤ nodes) × (largest (map g xs) ≤ most))
  no_room over fits = over (
    omega (arith, sum-take-le f xs i x below, size_is),
    omega (arith, largest-get_or-le g xs i x below, height_is),
  )

-- The sum of the sizes of the values at the positions where a definition descends falls at each self-call.
use Rattle.std.proofs.Common.{◌≡◌, inl, inr, ℕ, zero, suc, ◌+◌, ◌<◌, ◌≤◌, List, [], ◌∷◌, map, Option, Some, slice_get, unwrap_or, sym, ap}
use Rattle.std.proofs.Common.{subst, arith}
use Rattle.std.specs.Prelude.{sum}
use Rattle.std.specs.List.{All}
use Rattle.std.specs.Option.{option_map}
use Rattle.std.proofs.lemmas.List.Elements.{All-head, All-tail}
use Rattle.std.proofs.lemmas.List.Sums.{sum_by-cons}
use Rattle.px_terms.specs.declared.term.Value.{Value}
use Rattle.px_terms.specs.Descent.{Standing, itself, below, Lowers, Keeps, Falls}
use Rattle.px_totality.proofs.Instances.{nothing_is_some, one_item}
use Rattle.px_totality.proofs.Sizes.{value_size, IsBelow, AllStand, stands_as}

-- the size of the value at a position
abbrev pub size_at : List Value → ℕ → ℕ
size_at vs p = unwrap_or (option_map value_size (slice_get vs p)) 0

-- the sum of the sizes of the values at the positions
abbrev pub sizes_at : List Value → List ℕ → ℕ
sizes_at vs positions = sum (map (size_at vs) positions)

size_is : (vs : List Value) (p : ℕ) (v : Value) → slice_get vs p ≡ Some v → size_at vs p ≡ value_size v
size_is vs p v at = ap (λ (o : Option Value). unwrap_or (option_map value_size o) 0) at

sum_cons : (f : ℕ → ℕ) (p : ℕ) (positions : List ℕ) → sum (map f (p ∷ positions)) ≡ f p + sum (map f positions)
sum_cons f p positions = sum_by-cons (λ (n : ℕ). n) (f p) (map f positions)

no_more : (f g : ℕ → ℕ) (positions : List ℕ) → All (λ (p : ℕ). f p ≤ g p) positions → sum (map f positions) ≤ sum (map g positions)
no_more f g [] all = omega arith
no_more f g (p ∷ positions) all =
    let first : f p ≤ g p = All-head (λ (p : ℕ). f p ≤ g p) p positions all in
    let rest : sum (map f positions) ≤ sum (map g positions) = no_more f g positions (All-tail (λ (p : ℕ). f p ≤ g p) p positions all) in
    omega (arith, sum_cons f p positions, sum_cons g p positions, first, rest)

-- sums of which no part is more and one is less
less : (f g : ℕ → ℕ) (positions : List ℕ) (i p : ℕ) → All (λ (p : ℕ). f p ≤ g p) positions → slice_get positions i ≡ Some p → f p < g p →
    sum (map f positions) < sum (map g positions)
less f g [] i p all at lower = absurd (nothing_is_some p at)
less f g (q ∷ positions) zero p all at lower =
    let same : q ≡ p = one_item q p at in
    let here : f q < g q = subst (λ (p : ℕ). f p < g p) (sym same) lower in
    let rest : sum (map f positions) ≤ sum (map g positions) = no_more f g positions (All-tail (λ (p : ℕ). f p ≤ g p) q positions all) in
    omega (arith, sum_cons f q positions, sum_cons g q positions, here, rest)
less f g (q ∷ positions) (suc i) p all at lower =
    let first : f q ≤ g q = All-head (λ (p : ℕ). f p ≤ g p) q positions all in
    let rest : sum (map f positions) < sum (map g positions) = less f g positions i p (All-tail (λ (p : ℕ). f p ≤ g p) q positions all) at lower in
    omega (arith, sum_cons f q positions, sum_cons g q positions, first, rest)

module _ (rho : List Value) (args : List Standing) (vs : List Value) (stand : AllStand rho args vs) where
  lowered_size : (p : ℕ) → Lowers args p → size_at vs p < size_at rho p
  lowered_size p lowers =
      let there : (v : Value) × (slice_get vs p ≡ Some v) × IsBelow rho p v = stands_as rho p (below p) stand lowers in
      let v : Value = there.0 in
      let it : IsBelow rho p v = there.2 in
      let new : size_at vs p ≡ value_size v = size_is vs p v there.1 in
      let old : size_at rho p ≡ value_size it.parameter = size_is rho p it.parameter it.at in
      let smaller : value_size v < value_size it.parameter = it.smaller in
      omega (arith, new, old, smaller)

  kept_size : (p : ℕ) → Keeps args p → size_at vs p ≤ size_at rho p
  kept_size p (inl at) =
      let there : (v : Value) × (slice_get vs p ≡ Some v) × (slice_get rho p ≡ Some v) = stands_as rho p (itself p) stand at in
      let new : size_at vs p ≡ value_size there.0 = size_is vs p there.0 there.1 in
      let old : size_at rho p ≡ value_size there.0 = size_is rho p there.0 there.2 in
      omega (arith, new, old)
  kept_size p (inr lowers) = let h : size_at vs p < size_at rho p = lowered_size p lowers in omega (arith, h)

  -- the sum falls where a self-call does
  pub falls : (positions : List ℕ) → Falls positions args → sizes_at vs positions < sizes_at rho positions
  falls positions f =
      let lowered : (i p : ℕ) × (slice_get positions i ≡ Some p) × Lowers args p = f.lowered in
      less (size_at vs) (size_at rho) positions lowered.0 lowered.1 (λ i d within. kept_size _ (f.never_raised i d within)) lowered.2
      (lowered_size lowered.1 lowered.3)

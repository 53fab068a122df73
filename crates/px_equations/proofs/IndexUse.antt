-- What the index tells.
use Rattle.std.proofs.Common.{◌≡◌, ◌↔◌, ℕ, ◌+◌, ◌<◌, ◌≤◌, ◌^◌, IsTrue, List, Some, sym, subst, arith}
use Rattle.std.specs.Prelude.{slice_get, nat_lt}
use Rattle.std.proofs.lemmas.Bool.Decides.{Decides-ltb}
use Rattle.px_terms.specs.declared.program.Declared.{Declared}
use Rattle.px_equations.specs.declared.index.Index.{Index}
use Rattle.px_equations.specs.Index.{first_in, IsBelow, IsIndex}

-- the first number is one that declares it
pub first_stands : (all : List Declared) (index : Index) (d : Declared) (first n : ℕ) → IsIndex all index → first ≡ first_in index d → n < 2 ^ 32 → first < n →
    slice_get all first ≡ Some d
first_stands all index d first n is e small less =
    let next : first + 1 < 2 ^ 32 = small_next (2 ^ 32) small in
    let here : IsBelow all (first + 1) d = (is.first d (first + 1) next).0 (rw (← e) (suc_less first)) in
    let least : (k : ℕ) → slice_get all k ≡ Some d → k < first → ⊥ =
    λ k stands under. no_less (rw (← e) at ((is.first d first (small_first (2 ^ 32) small)).1 (record { number = k; below = under; stands = stands }))) in
    subst (λ (k : ℕ). slice_get all k ≡ Some d) (same_number here.number first here.below (least here.number here.stands)) here.stands
  where
    suc_less : (k : ℕ) → k < k + 1
    suc_less k = omega arith

    small_next : (limit : ℕ) → n < limit → first + 1 < limit
    small_next limit h = omega (arith, less)

    small_first : (limit : ℕ) → n < limit → first < limit
    small_first limit h = omega (arith, less)

    no_less : first < first → ⊥
    no_less h = omega arith

    same_number : (k m : ℕ) → k < m + 1 → (k < m → ⊥) → k ≡ m
    same_number k m below other = omega arith

-- the first number is below n exactly where it is declared below n
pub tells_below : (all : List Declared) (index : Index) (d : Declared) (first n : ℕ) → IsIndex all index → first ≡ first_in index d → n < 2 ^ 32 →
    (first < n) ↔ IsBelow all n d
tells_below all index d first n is e small = subst (λ (k : ℕ). (k < n) ↔ IsBelow all n d) (sym e) (is.first d n small)

pub test_below : (all : List Declared) (index : Index) (d : Declared) (first n : ℕ) → IsIndex all index → first ≡ first_in index d → n < 2 ^ 32 →
    IsTrue (nat_lt first n) ↔ IsBelow all n d
test_below all index d first n is e small =
    let test = Decides-ltb first n in
    let tells : (first < n) ↔ IsBelow all n d = tells_below all index d first n is e small in
    (λ t. tells.0 (test.0 t), λ b. test.1 (tells.1 b))

pub not_below : (first n : ℕ) → n ≤ first → first < n → ⊥
not_below first n past less = omega arith

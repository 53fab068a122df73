-- The bodies of a match, one for each constructor, as its arms come in any order.
use Rattle.std.proofs.Common.{◌≡◌, ◌⊎◌, inl, inr, ℕ, zero, suc, ◌<◌, List, [], ◌∷◌, length, map, Option, Some, None, refl, sym, ap, arith}
use Rattle.std.specs.Prelude.{slice_get, slice_set, replicate, Contains}
use Rattle.std.specs.Option.{option_map}
use Rattle.px_terms.specs.declared.term.Term.{Term}
use Rattle.px_types.specs.Outcome.{all_filled}

pub one_some : {X : Type 0} {x y : X} → Some x ≡ Some y → x ≡ y
one_some e = cc

pub some_none : {X : Type 0} (x : X) → Some x ≡ None → ⊥
some_none x e = cc

-- an item that was set, and the others
pub set_same : {X : Type 0} (xs : List X) (i : ℕ) (x : X) → i < length xs → slice_get (slice_set xs i x) i ≡ Some x
set_same [] i x h = absurd (omega arith)
set_same (y ∷ ys) zero x h = refl
set_same (y ∷ ys) (suc i) x h = set_same ys i x (omega arith)

pub set_other : {X : Type 0} (xs : List X) (i j : ℕ) (x : X) → (j ≡ i → ⊥) → slice_get (slice_set xs i x) j ≡ slice_get xs j
set_other [] i j x h = refl
set_other (y ∷ ys) zero zero x h = absurd (h refl)
set_other (y ∷ ys) zero (suc j) x h = refl
set_other (y ∷ ys) (suc i) zero x h = refl
set_other (y ∷ ys) (suc i) (suc j) x h = set_other ys i j x (λ e. h (ap suc e))

pub set_length : {X : Type 0} (xs : List X) (i : ℕ) (x : X) → length (slice_set xs i x) ≡ length xs
set_length [] i x = refl
set_length (y ∷ ys) zero x = refl
set_length (y ∷ ys) (suc i) x = ap suc (set_length ys i x)

pub get_within : {X : Type 0} (xs : List X) (i : ℕ) (x : X) → slice_get xs i ≡ Some x → i < length xs
get_within [] i x e = absurd (some_none x (sym e))
get_within (y ∷ ys) zero x e = omega arith
get_within (y ∷ ys) (suc i) x e = let h : i < length ys = get_within ys i x e in omega arith

pub get_at : {X : Type 0} (xs : List X) (i : ℕ) → i < length xs → (x : X) × (slice_get xs i ≡ Some x)
get_at [] i h = absurd (omega arith)
get_at (x ∷ xs) zero h = (x, refl)
get_at (x ∷ xs) (suc i) h = get_at xs i (omega arith)

-- two numbers are one, or they aren't
pub same_number : (i j : ℕ) → (i ≡ j) ⊎ (i ≡ j → ⊥)
same_number zero zero = inl refl
same_number zero (suc j) = inr (λ e. omega arith)
same_number (suc i) zero = inr (λ e. omega arith)
same_number (suc i) (suc j) = elim (same_number i j) [ inl e ↦ inl (ap suc e) | inr d ↦ inr (λ e. d (omega arith)) ]

-- how many have no body
pub open_count : {X : Type 0} → List (Option X) → ℕ
open_count [] = 0
open_count (None ∷ slots) = suc (open_count slots)
open_count (Some x ∷ slots) = open_count slots

pub open_set : {X : Type 0} (slots : List (Option X)) (i : ℕ) (x : X) → slice_get slots i ≡ Some None → open_count slots ≡ suc (open_count (slice_set slots i (Some x)))
unfolding open_count
open_set [] i x e = absurd (some_none None (sym e))
open_set (None ∷ slots) zero x e = refl
open_set (Some y ∷ slots) zero x e = absurd (some_none y (one_some e))
open_set (None ∷ slots) (suc i) x e = ap suc (open_set slots i x e)
open_set (Some y ∷ slots) (suc i) x e = open_set slots i x e

pub open_replicate : (n : ℕ) → open_count (replicate {A = Option Term} n None) ≡ n
unfolding open_count
open_replicate zero = refl
open_replicate (suc n) = ap suc (open_replicate n)

pub replicate_get : {X : Type 0} (n k : ℕ) → k < n → slice_get (replicate {A = Option X} n None) k ≡ Some None
replicate_get zero k h = absurd (omega arith)
replicate_get (suc n) zero h = refl
replicate_get (suc n) (suc k) h = replicate_get n k (omega arith)

pub replicate_open : {X : Type 0} (n k : ℕ) (x : X) → slice_get (replicate {A = Option X} n None) k ≡ Some (Some x) → ⊥
replicate_open zero k x e = some_none (Some x) (sym e)
replicate_open (suc n) zero x e = some_none x (sym (one_some e))
replicate_open (suc n) (suc k) x e = replicate_open n k x e

pub replicate_length : (n : ℕ) → length (replicate {A = Option Term} n None) ≡ n
replicate_length zero = refl
replicate_length (suc n) = ap suc (replicate_length n)

-- where all have a body, these are the bodies
pub filled_is : (slots : List (Option Term)) (ts : List Term) → all_filled slots ≡ Some ts → slots ≡ map (λ (t : Term). Some t) ts
unfolding all_filled
filled_is [] [] e = refl
filled_is [] (t ∷ ts) e = let f : [] ≡ t ∷ ts = one_some e in absurd cc
filled_is (None ∷ slots) ts e = absurd (some_none ts (sym e))
filled_is (Some t ∷ slots) us e = go (all_filled slots) refl us e (filled_is slots)
  where
    go : (o : Option (List Term)) → all_filled slots ≡ o → (us : List Term) → option_map (λ (ts : List Term). t ∷ ts) o ≡ Some us → ((ts : List Term) → all_filled slots ≡ Some ts → slots ≡ map (λ (t : Term). Some t) ts) → Some t ∷ slots ≡ map (λ (t : Term). Some t) us
    go None is us e rest = absurd (some_none us (sym e))
    go (Some ts) is us e rest = let f : t ∷ ts ≡ us = one_some e in rw (← f, rest ts is) refl

pub filled_all : (ts : List Term) → all_filled (map (λ (t : Term). Some t) ts) ≡ Some ts
unfolding all_filled
filled_all [] = refl
filled_all (t ∷ ts) = rw (filled_all ts) refl

-- where not all have a body, one has none
pub one_open : (slots : List (Option Term)) → all_filled slots ≡ None → (k : ℕ) × (slice_get slots k ≡ Some None)
unfolding all_filled
one_open [] e = absurd (some_none [] e)
one_open (None ∷ slots) e = (0, refl)
one_open (Some t ∷ slots) e = go (all_filled slots) refl e (one_open slots)
  where
    go : (o : Option (List Term)) → all_filled slots ≡ o → option_map (λ (ts : List Term). t ∷ ts) o ≡ None → (all_filled slots ≡ None → (k : ℕ) × (slice_get slots k ≡ Some None)) → (k : ℕ) × (slice_get (Some t ∷ slots) k ≡ Some None)
    go None is e rest = let there = rest is in (suc there.0, there.1)
    go (Some ts) is e rest = absurd (some_none (t ∷ ts) e)

pub open_one : (slots : List (Option Term)) (k : ℕ) → slice_get slots k ≡ Some None → all_filled slots ≡ None
unfolding all_filled
open_one [] k e = absurd (some_none None (sym e))
open_one (None ∷ slots) k e = refl
open_one (Some t ∷ slots) zero e = absurd (some_none t (one_some e))
open_one (Some t ∷ slots) (suc k) e = rw (open_one slots k e) refl

-- where none is open, all have a body
pub none_open : (slots : List (Option Term)) → open_count slots ≡ 0 → (ts : List Term) × (slots ≡ map (λ (t : Term). Some t) ts)
unfolding open_count
none_open [] e = ([], refl)
none_open (None ∷ slots) e = absurd (omega arith)
none_open (Some t ∷ slots) e = let rest = none_open slots e in (t ∷ rest.0, ap (λ (xs : List (Option Term)). Some t ∷ xs) rest.1)

pub none_open_left : (ts : List Term) → open_count (map (λ (t : Term). Some t) ts) ≡ 0
unfolding open_count
none_open_left [] = refl
none_open_left (t ∷ ts) = none_open_left ts

pub get_map : (ts : List Term) (k : ℕ) (t : Term) → slice_get ts k ≡ Some t → slice_get (map (λ (t : Term). Some t) ts) k ≡ Some (Some t)
get_map [] k t e = absurd (some_none t (sym e))
get_map (u ∷ ts) zero t e = ap Some e
get_map (u ∷ ts) (suc k) t e = get_map ts k t e

pub map_get : (ts : List Term) (k : ℕ) (t : Term) → slice_get (map (λ (t : Term). Some t) ts) k ≡ Some (Some t) → slice_get ts k ≡ Some t
map_get [] k t e = absurd (some_none (Some t) (sym e))
map_get (u ∷ ts) zero t e = one_some e
map_get (u ∷ ts) (suc k) t e = map_get ts k t e

-- two lists that have the same at each place are one
pub same_at : (ts us : List Term) → length ts ≡ length us → ((k : ℕ) (t : Term) → slice_get ts k ≡ Some t → slice_get us k ≡ Some t) → ts ≡ us
same_at [] [] e all = refl
same_at [] (u ∷ us) e all = absurd (omega arith)
same_at (t ∷ ts) [] e all = absurd (omega arith)
same_at (t ∷ ts) (u ∷ us) e all =
    let here : u ≡ t = one_some (all 0 t refl) in
    let rest : ts ≡ us = same_at ts us (omega arith) (λ k x at. all (suc k) x at) in
    cc

-- what stands in a list with one more at the front
pub contains_here : {X : Type 0} (x : X) (xs : List X) → Contains (x ∷ xs) x
contains_here x xs = (0, omega arith, refl)

pub contains_later : {X : Type 0} (x y : X) (xs : List X) → Contains xs y → Contains (x ∷ xs) y
contains_later x y xs h = let below : h.0 < length xs = h.1 in (suc h.0, omega arith, h.2)

pub contains_cases : {X : Type 0} (x y : X) (xs : List X) → Contains (x ∷ xs) y → (x ≡ y) ⊎ Contains xs y
contains_cases x y xs (zero, below, is) = inl is
contains_cases x y xs (suc k, below, is) = inr (k, omega arith, is)

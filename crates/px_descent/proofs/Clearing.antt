-- Which positions are left when those are cleared that calls do not keep: call by call, and part by part.
use Rattle.std.proofs.Common.{◌≡◌, ℕ, ◌+◌, ◌<◌, ◌≤◌, Bool, false, IsTrue, List, [], ◌∷◌, ◌++◌, length, get_or, set, sym, ◌∙◌, ◌↔◌, arith, get_or-set_same, get_or-set_other, below_more, inl, inr, ◌⊎◌, ◌≢◌}
use Rattle.std.proofs.lemmas.List.{get_or_past}
use Rattle.std.proofs.lemmas.Bool.{cases_lt, false≢true}
use Rattle.std.proofs.lemmas.List.Elements.{All-head, All-cons, All-nil, All-append}
use Rattle.std.specs.List.{All}
use Rattle.px_descent.proofs.Lists.{front_all, back_all}
use Rattle.px_terms.specs.Descent.{Standing, Keeps}
use Rattle.px_descent.specs.Kept.{Clears}

-- what a loop over the positions has done with those below this one
pub record Cleared (first : ℕ) (args : List Standing) (below : ℕ) (old new : List Bool) : Type 0 where
  pub done : (i : ℕ) → i < below → IsTrue (get_or new i false) ↔ (IsTrue (get_or old i false) × Keeps args (first + i))
  pub ahead : (i : ℕ) → below ≤ i → get_or new i false ≡ get_or old i false

-- a position that the call keeps stays as it is
pub kept_more : (first : ℕ) (args : List Standing) (i : ℕ) (old new : List Bool) → Cleared first args i old new → Keeps args (first + i) →
    Cleared first args (i + 1) old new
kept_more first args i old new so_far keeps = record {
  done = below_more (λ k. IsTrue (get_or new k false) ↔ (IsTrue (get_or old k false) × Keeps args (first + k))) i so_far.done here;
  ahead = λ j above. so_far.ahead j (omega arith);
}
  where
    here : IsTrue (get_or new i false) ↔ (IsTrue (get_or old i false) × Keeps args (first + i))
    here = ((λ yes. (sym (so_far.ahead i (omega arith)) ∙ yes, keeps)), (λ both. so_far.ahead i (omega arith) ∙ both.0))

-- a position that the call does not keep is cleared
pub cleared_more : (first : ℕ) (args : List Standing) (i : ℕ) (old new : List Bool) → i < length new → Cleared first args i old new →
    ¬ Keeps args (first + i) → Cleared first args (i + 1) old (set new i false)
cleared_more first args i old new within so_far raised = record {
  done = below_more (λ k. IsTrue (get_or (set new i false) k false) ↔ (IsTrue (get_or old k false) × Keeps args (first + k))) i before here;
  ahead = λ j above. let other : j ≢ i = omega arith in get_or-set_other new i j false false other ∙ so_far.ahead j (omega arith);
}
  where
    before : (k : ℕ) → k < i → IsTrue (get_or (set new i false) k false) ↔ (IsTrue (get_or old k false) × Keeps args (first + k))
    before k below = let other : k ≢ i = omega arith in rw (get_or-set_other new i k false false other) (so_far.done k below)

    here : IsTrue (get_or (set new i false) i false) ↔ (IsTrue (get_or old i false) × Keeps args (first + i))
    here = ((λ yes. absurd (false≢true (sym (get_or-set_same new i false false within) ∙ yes))), (λ both. absurd (raised both.1)))

-- past the last position there is nothing to clear
pub cleared_all : (first : ℕ) (args : List Standing) (end : ℕ) (old new : List Bool) → end ≡ length new → length new ≡ length old →
    Cleared first args end old new → Clears first (args ∷ []) old new
cleared_all first args end old new is same all = record { left = λ i. cases i (cases_lt i end) }
  where
    cases : (i : ℕ) → (i < end) ⊎ (end ≤ i) →
        IsTrue (get_or new i false) ↔ (IsTrue (get_or old i false) × All (λ (a : List Standing). Keeps a (first + i)) (args ∷ []))
    cases i (inr past) =
        let none : get_or old i false ≡ false = get_or_past old i false (omega arith) in
        let nothing : get_or new i false ≡ false = get_or_past new i false (omega arith) in
        ((λ yes. absurd (false≢true (sym nothing ∙ yes))), (λ both. absurd (false≢true (sym none ∙ both.0))))
    cases i (inl below) =
        let test : IsTrue (get_or new i false) ↔ (IsTrue (get_or old i false) × Keeps args (first + i)) = all.done i below in (
          (λ yes. (
            (test.0 yes).0,
            All-cons (λ (a : List Standing). Keeps a (first + i)) args [] (test.0 yes).1
                (All-nil (λ (a : List Standing). Keeps a (first + i))),
          )),
          (λ both. test.1 (both.0, All-head (λ (a : List Standing). Keeps a (first + i)) args [] both.1)),
        )

-- where there is no call, all positions stay
pub clears_none : (first : ℕ) (kept : List Bool) → Clears first [] kept kept
clears_none first kept = record { left = λ i. ((λ yes. (yes, All-nil (λ (a : List Standing). Keeps a (first + i)))), (λ both. both.0)) }

-- the calls of one part after the calls of another
pub clears_both : (first : ℕ) (xs ys : List (List Standing)) (old mid new : List Bool) → Clears first xs old mid → Clears first ys mid new →
    Clears first (xs ++ ys) old new
clears_both first xs ys old mid new one two = record { left = λ i. (to i, from i) }
  where
    to : (i : ℕ) → IsTrue (get_or new i false) → IsTrue (get_or old i false) × All (λ (a : List Standing). Keeps a (first + i)) (xs ++ ys)
    to i there =
        let later = (two.left i).0 there in
        let earlier = (one.left i).0 later.0 in
        (earlier.0, All-append (λ (a : List Standing). Keeps a (first + i)) xs ys earlier.1 later.1)

    from : (i : ℕ) → IsTrue (get_or old i false) × All (λ (a : List Standing). Keeps a (first + i)) (xs ++ ys) → IsTrue (get_or new i false)
    from i both =
        (two.left i).1 (
          (one.left i).1 (both.0, front_all (λ (a : List Standing). Keeps a (first + i)) xs ys both.1),
          back_all (λ (a : List Standing). Keeps a (first + i)) xs ys both.1,
        )

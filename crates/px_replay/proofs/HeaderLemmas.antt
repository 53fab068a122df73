-- Variables that rise, one after the other.
use Rattle.std.proofs.Common.{◌≡◌, ◌<◌, ◌≤◌, ◌+◌, ℕ, suc, List, [], ◌∷◌, length, drop, get_or, sym, ap, subst, ◌∙◌, All, arith}
use Rattle.std.proofs.Math.Seq.{drop-cons}
use Rattle.std.proofs.lemmas.List.Elements.{All-nil, All-cons, All-head, All-tail}
use Rattle.px_terms.specs.declared.clause.Clause.{Clause}
use Rattle.px_terms.specs.Derivations.{Rise, AreFrameVariables}

-- The variables rise from the least on, and are below the bound.
pub record Remain (least bound : ℕ) (on : List ℕ) : Type 0 where
  pub least_first : All (λ (v : ℕ). least ≤ v) on
  pub rise : Rise on
  pub within : All (λ (v : ℕ). v < bound) on

all_zero : (on : List ℕ) → All (λ (v : ℕ). 0 ≤ v) on
all_zero [] = All-nil (λ (v : ℕ). 0 ≤ v)
all_zero (v ∷ on) = All-cons (λ (w : ℕ). 0 ≤ w) v on (omega arith) (all_zero on)

pub all_remain : (clause : Clause) (on : List ℕ) → AreFrameVariables clause on → Remain 0 (length clause.vars) on
all_remain clause on are = record { least_first = all_zero on; rise = are.rise; within = are.within }

pub none_remain : (clause : Clause) (on : List ℕ) (least : ℕ) → Remain least (length clause.vars) on → AreFrameVariables clause on
none_remain clause on least remain = record { rise = remain.rise; within = remain.within }

weaker : (a b : ℕ) (on : List ℕ) → a ≤ b → All (λ (v : ℕ). b ≤ v) on → All (λ (v : ℕ). a ≤ v) on
weaker a b [] below all = All-nil (λ (v : ℕ). a ≤ v)
weaker a b (v ∷ on) below all = let here : b ≤ v = All-head (λ (w : ℕ). b ≤ w) v on all in All-cons (λ (w : ℕ). a ≤ w) v on (omega (arith, below, here)) (weaker a b on below (All-tail (λ (w : ℕ). b ≤ w) v on all))

above : (a : ℕ) (on : List ℕ) → All (λ (v : ℕ). a + 1 ≤ v) on → All (λ (v : ℕ). a < v) on
above a [] all = All-nil (λ (v : ℕ). a < v)
above a (v ∷ on) all = let here : a + 1 ≤ v = All-head (λ (w : ℕ). a + 1 ≤ w) v on all in All-cons (λ (w : ℕ). a < w) v on (omega (arith, here)) (above a on (All-tail (λ (w : ℕ). a + 1 ≤ w) v on all))

from_above : (a : ℕ) (on : List ℕ) → All (λ (v : ℕ). a < v) on → All (λ (v : ℕ). a + 1 ≤ v) on
from_above a [] all = All-nil (λ (v : ℕ). a + 1 ≤ v)
from_above a (v ∷ on) all = let here : a < v = All-head (λ (w : ℕ). a < w) v on all in All-cons (λ (w : ℕ). a + 1 ≤ w) v on (omega (arith, here)) (from_above a on (All-tail (λ (w : ℕ). a < w) v on all))

-- one variable more
pub remain_on : (least bound v : ℕ) (on : List ℕ) → Remain least bound (v ∷ on) → Remain (v + 1) bound on
remain_on least bound v on remain = record { least_first = from_above v on remain.rise.0; rise = remain.rise.1; within = All-tail (λ (w : ℕ). w < bound) v on remain.within }

pub remain_back : (least bound v : ℕ) (on : List ℕ) → least ≤ v → v < bound → Remain (v + 1) bound on → Remain least bound (v ∷ on)
remain_back least bound v on low high remain =
    let over : least ≤ v + 1 = omega (arith, low) in
    record { least_first = All-cons (λ (w : ℕ). least ≤ w) v on low (weaker least (v + 1) on over remain.least_first); rise = (above v on remain.least_first, remain.rise); within = All-cons (λ (w : ℕ). w < bound) v on high remain.within }

-- the list from a place on
from_place : (on : List ℕ) (i v d : ℕ) → i < length on → v ≡ get_or on i d → drop i on ≡ v ∷ drop (i + 1) on
from_place on i v d within is = drop-cons on i d within ∙ (ap (λ (x : ℕ). x ∷ drop (suc i) on) (sym is) ∙ ap (λ (n : ℕ). v ∷ drop n on) (let e : suc i ≡ i + 1 = omega arith in e))

-- what was remaining at a place, and what remains behind it
pub place_on : (on : List ℕ) (i v d least bound : ℕ) → i < length on → v ≡ get_or on i d → Remain least bound (drop i on) → Remain (v + 1) bound (drop (i + 1) on)
place_on on i v d least bound within is remain = remain_on least bound v (drop (i + 1) on) (subst (Remain least bound) (from_place on i v d within is) remain)

pub place_back : (on : List ℕ) (i v d least bound : ℕ) → i < length on → v ≡ get_or on i d → least ≤ v → v < bound → Remain (v + 1) bound (drop (i + 1) on) → Remain least bound (drop i on)
place_back on i v d least bound within is low high remain = subst (Remain least bound) (sym (from_place on i v d within is)) (remain_back least bound v (drop (i + 1) on) low high remain)

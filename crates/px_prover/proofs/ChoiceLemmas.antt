-- Lists of numbers below a count: those of one more place are each number with each list behind it.
use Rattle.std.proofs.Common.{◌≡◌, ◌<◌, ◌≤◌, ◌+◌, ⊎_elim, ◌↔◌, ℕ, List, [], ◌∷◌, ◌++◌, length, map, All, Contains, sym, ap, subst, refl, ◌∙◌, arith}
use Rattle.std.proofs.lemmas.List.Elements.{All-nil, All-cons, All-head, All-tail, Contains-append_left, Contains-append_right, Contains-append_cases}
use Rattle.px_prover.proofs.NoneSoFar.{cases_eq}
use Rattle.px_prover.proofs.RisingLemmas.{contains_cases, contains_first, behind_has, behind_from}

-- A list of the longer ones: a number below the count, and a list behind it.
pub record IsLonger (count : ℕ) (lists : List (List ℕ)) (on : List ℕ) : Type 0 where
  pub first : ℕ
  pub others : List ℕ
  pub below : first < count
  pub stands : Contains lists others
  pub is : on ≡ first ∷ others

-- the longer lists are the numbers below the count with each of the lists behind them
pub record AreLonger (count : ℕ) (lists longer : List (List ℕ)) : Type 0 where
  pub are : (on : List ℕ) → Contains longer on → IsLonger count lists on
  pub all : (on : List ℕ) → IsLonger count lists on → Contains longer on

pub longer_start : (lists longer : List (List ℕ)) → longer ≡ [] → AreLonger 0 lists longer
longer_start lists longer empty = record {
  are = λ on has. let none = subst (λ (ls : List (List ℕ)). Contains ls on) empty has in absurd (omega (arith, none.1));
  all = λ on longest. absurd (omega (arith, longest.below));
}

pub longer_next : (count : ℕ) (lists longer more new : List (List ℕ)) → AreLonger count lists longer → more ≡ map (λ (list : List ℕ). count ∷ list) lists → new ≡ longer ++ more → AreLonger (count + 1) lists new
longer_next count lists longer more new before more_is is =
    let with_it = map (λ (list : List ℕ). count ∷ list) lists in
    let whole : new ≡ longer ++ with_it = is ∙ ap (λ (ls : List (List ℕ)). longer ++ ls) more_is in
    record {
      are = λ on has. ⊎_elim
          (λ old. later (before.are on old))
          (λ last. let found = behind_from count lists on last in record { first = count; others = found.0; below = omega arith; stands = found.1; is = sym found.2 })
          (Contains-append_cases longer with_it on (subst (λ (ls : List (List ℕ)). Contains ls on) whole has));
      all = λ on longest. subst (λ (ls : List (List ℕ)). Contains ls on) (sym whole) (⊎_elim
          (λ (same : longest.first ≡ count). subst (Contains (longer ++ with_it)) (sym (longest.is ∙ ap (λ (n : ℕ). n ∷ longest.others) same)) (Contains-append_right longer with_it (count ∷ longest.others) (behind_has count lists longest.others longest.stands)))
          (λ other. Contains-append_left longer with_it on (before.all on (sooner longest other)))
          (cases_eq longest.first count));
    }
  where
    later : {on : List ℕ} → IsLonger count lists on → IsLonger (count + 1) lists on
    later l = let less = l.below in record { first = l.first; others = l.others; below = omega (arith, less); stands = l.stands; is = l.is }

    sooner : {on : List ℕ} (l : IsLonger (count + 1) lists on) → ¬ (l.first ≡ count) → IsLonger count lists on
    sooner l other = let less = l.below in record { first = l.first; others = l.others; below = omega (arith, less, other); stands = l.stands; is = l.is }

-- all of them
pub longer_end : (count number : ℕ) (lists longer : List (List ℕ)) → number ≤ count → count ≤ number → AreLonger number lists longer → (on : List ℕ) →
    Contains longer on ↔ ((n : ℕ) × (list : List ℕ) × (n < count) × Contains lists list × (on ≡ n ∷ list))
longer_end count number lists longer low high before on = (
  λ has. let l = before.are on has in let less = l.below in (l.first, l.others, omega (arith, less, low), l.stands, l.is),
  λ found. let less = found.2 in before.all on (record { first = found.0; others = found.1; below = omega (arith, less, high); stands = found.3; is = found.4 }),
)

-- these are the lists of so many numbers below the count
pub record AreLists (count places : ℕ) (lists : List (List ℕ)) : Type 0 where
  pub are : (on : List ℕ) → Contains lists on → (length on ≡ places) × All (λ (n : ℕ). n < count) on
  pub all : (on : List ℕ) → length on ≡ places → All (λ (n : ℕ). n < count) on → Contains lists on

pub lists_start : (count : ℕ) (lists : List (List ℕ)) → lists ≡ [] ∷ [] → AreLists count 0 lists
lists_start count lists is = record {
  are = λ on has. ⊎_elim
      (λ (same : [] ≡ on). (ap (λ (ns : List ℕ). length ns) (sym same), subst (λ (ns : List ℕ). All (λ (n : ℕ). n < count) ns) same (All-nil (λ (n : ℕ). n < count))))
      (λ later. absurd (omega (arith, later.1)))
      (contains_cases [] [] on (subst (λ (ls : List (List ℕ)). Contains ls on) is has));
  all = λ on long within. subst (λ (ls : List (List ℕ)). Contains ls on) (sym is) (empty on long);
}
  where
    empty : (on : List ℕ) → length on ≡ 0 → Contains ([] ∷ []) on
    empty [] long = contains_first [] []
    empty (n ∷ ns) long = absurd (omega (arith, long))

pub lists_next : (count places : ℕ) (lists longer : List (List ℕ)) → AreLists count places lists →
    ((on : List ℕ) → Contains longer on ↔ ((n : ℕ) × (list : List ℕ) × (n < count) × Contains lists list × (on ≡ n ∷ list))) → AreLists count (places + 1) longer
lists_next count places lists longer before exact = record {
  are = λ on has.
      let found = (exact on).0 has in
      let rest = before.are found.1 found.3 in
      let long : length on ≡ length (found.0 ∷ found.1) = ap (λ (ns : List ℕ). length ns) found.4 in
      let shorter = rest.0 in
      (omega (arith, long, shorter), subst (λ (ns : List ℕ). All (λ (n : ℕ). n < count) ns) (sym found.4) (All-cons (λ (n : ℕ). n < count) found.0 found.1 found.2 rest.1));
  all = by_list;
}
  where
    by_list : (on : List ℕ) → length on ≡ places + 1 → All (λ (n : ℕ). n < count) on → Contains longer on
    by_list [] long within = absurd (omega (arith, long))
    by_list (n ∷ ns) long within = (exact (n ∷ ns)).1 (n, ns, All-head (λ (m : ℕ). m < count) n ns within, before.all ns (omega (arith, long)) (All-tail (λ (m : ℕ). m < count) n ns within), refl)

-- all places
pub lists_end : (count places number : ℕ) (lists : List (List ℕ)) → number ≤ places → places ≤ number → AreLists count number lists → (on : List ℕ) →
    Contains lists on ↔ ((length on ≡ places) × All (λ (n : ℕ). n < count) on)
lists_end count places number lists low high before on = (
  λ has. let found = before.are on has in let long = found.0 in (omega (arith, long, low, high), found.1),
  λ found. let long = found.0 in before.all on (omega (arith, long, low, high)) found.1,
)

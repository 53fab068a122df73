-- Lists of numbers that rise: those from a number on are those from the next on, and the same with the number before them.
use Rattle.std.proofs.Common.{◌≡◌, ◌<◌, ◌≤◌, ◌+◌, ◌⊎◌, inl, inr, ⊎_elim, ◌↔◌, ℕ, zero, suc, List, [], ◌∷◌, ◌++◌, length, map, sym, ap, subst, refl, ◌∙◌, All, Contains, Result, Ok, Err, IfOk, arith, Bool, true, false, nat_eq, eqb-true, eq-eqb}
use Rattle.std.proofs.lemmas.List.Elements.{All-nil, All-cons, All-head, All-tail, All-weaker, Contains-append_left, Contains-append_right, Contains-append_cases}
use Rattle.px_terms.specs.declared.clause.Clause.{Clause}
use Rattle.px_terms.specs.Derivations.{Rise, AreFrameVariables}

-- The numbers rise from the least on, and are below the bound.
pub record RiseFrom (least bound : ℕ) (on : List ℕ) : Type 0 where
  pub rise : Rise on
  pub least_first : All (λ (v : ℕ). least ≤ v) on
  pub within : All (λ (v : ℕ). v < bound) on

-- The lists are those that rise from the least on below the bound.
pub record AreRising (least bound : ℕ) (lists : List (List ℕ)) : Type 0 where
  pub rise : (on : List ℕ) → Contains lists on → RiseFrom least bound on
  pub all : (on : List ℕ) → RiseFrom least bound on → Contains lists on

true_is_not_false : true ≡ false → ⊥
true_is_not_false e = cc

-- two numbers are one, or not
cases_eq : (a b : ℕ) → (a ≡ b) ⊎ (a ≡ b → ⊥)
cases_eq a b = by_test (nat_eq a b) refl
  where
    by_test : (s : Bool) → nat_eq a b ≡ s → (a ≡ b) ⊎ (a ≡ b → ⊥)
    by_test true e = inl (eqb-true a b e)
    by_test false e = inr (λ same. true_is_not_false (sym (eq-eqb a b same) ∙ e))

-- an element of a list, and one of the list behind it
pub contains_cases : {X : Type 0} (x : X) (xs : List X) (y : X) → Contains (x ∷ xs) y → (x ≡ y) ⊎ Contains xs y
contains_cases x xs y (zero, within, is) = inl is
contains_cases x xs y (suc k, within, is) = inr (k, omega (arith, within), is)

pub contains_first : {X : Type 0} (x : X) (xs : List X) → Contains (x ∷ xs) x
contains_first x xs = (0, omega arith, refl)

contains_later : {X : Type 0} (x : X) (xs : List X) (y : X) → Contains xs y → Contains (x ∷ xs) y
contains_later x xs y (k, within, is) = (suc k, omega (arith, within), is)

-- each list with a number before it
pub behind_has : (number : ℕ) (lists : List (List ℕ)) (on : List ℕ) → Contains lists on → Contains (map (λ (list : List ℕ). number ∷ list) lists) (number ∷ on)
behind_has number [] on (k, within, is) = absurd (omega (arith, within))
behind_has number (list ∷ lists) on has = ⊎_elim
    (λ same. subst (λ (l : List ℕ). Contains ((number ∷ list) ∷ map (λ (l : List ℕ). number ∷ l) lists) (number ∷ l)) same (contains_first (number ∷ list) (map (λ (l : List ℕ). number ∷ l) lists)))
    (λ later. contains_later (number ∷ list) (map (λ (l : List ℕ). number ∷ l) lists) (number ∷ on) (behind_has number lists on later))
    (contains_cases list lists on has)

pub behind_from : (number : ℕ) (lists : List (List ℕ)) (on : List ℕ) → Contains (map (λ (list : List ℕ). number ∷ list) lists) on → (list : List ℕ) × Contains lists list × (number ∷ list ≡ on)
behind_from number [] on (k, within, is) = absurd (omega (arith, within))
behind_from number (list ∷ lists) on has = ⊎_elim
    (λ same. (list, contains_first list lists, same))
    (λ later. let found = behind_from number lists on later in (found.0, contains_later list lists found.0 found.1, found.2))
    (contains_cases (number ∷ list) (map (λ (l : List ℕ). number ∷ l) lists) on has)

none_between : (least : ℕ) (on : List ℕ) → RiseFrom least least on → on ≡ []
none_between least [] rise = refl
none_between least (v ∷ on) rise =
    let low : least ≤ v = All-head (λ (w : ℕ). least ≤ w) v on rise.least_first in
    let high : v < least = All-head (λ (w : ℕ). w < least) v on rise.within in
    absurd (omega (arith, low, high))

rise_none : (least bound : ℕ) → RiseFrom least bound []
rise_none least bound = record { rise = tt; least_first = All-nil (λ (v : ℕ). least ≤ v); within = All-nil (λ (v : ℕ). v < bound) }

-- the empty list alone
pub rising_start : (bound : ℕ) (lists : List (List ℕ)) → lists ≡ [] ∷ [] → AreRising bound bound lists
rising_start bound lists is = record {
  rise = λ on has. ⊎_elim (λ same. subst (RiseFrom bound bound) same (rise_none bound bound)) (λ later. absurd (omega (arith, later.1))) (contains_cases [] [] on (subst (λ (ls : List (List ℕ)). Contains ls on) is has));
  all = λ on rise. subst (λ (ls : List (List ℕ)). Contains ls on) (sym is) (subst (Contains ([] ∷ [])) (sym (none_between bound on rise)) (contains_first [] []));
}

module _ (number bound : ℕ) (below : number < bound) where
  rise_weaker : (on : List ℕ) → RiseFrom (number + 1) bound on → RiseFrom number bound on
  rise_weaker on rise = record { rise = rise.rise; least_first = All-weaker (λ (v : ℕ). number + 1 ≤ v) (λ (v : ℕ). number ≤ v) (λ v more. omega (arith, more)) on rise.least_first; within = rise.within }

  rise_behind : (on : List ℕ) → RiseFrom (number + 1) bound on → RiseFrom number bound (number ∷ on)
  rise_behind on rise = record {
    rise = (All-weaker (λ (v : ℕ). number + 1 ≤ v) (λ (v : ℕ). number < v) (λ v more. omega (arith, more)) on rise.least_first, rise.rise);
    least_first = All-cons (λ (v : ℕ). number ≤ v) number on (omega arith) (rise_weaker on rise).least_first;
    within = All-cons (λ (v : ℕ). v < bound) number on below rise.within;
  }

  -- all but the first are above it
  rest_above : (v : ℕ) (on : List ℕ) → number ≤ v → RiseFrom number bound (v ∷ on) → RiseFrom (number + 1) bound on
  rest_above v on low rise = record {
    rise = rise.rise.1;
    least_first = All-weaker (λ (w : ℕ). v < w) (λ (w : ℕ). number + 1 ≤ w) (λ w more. omega (arith, low, more)) on rise.rise.0;
    within = All-tail (λ (w : ℕ). w < bound) v on rise.within;
  }

  -- it is the first, or below all
  first_cases : (on : List ℕ) → RiseFrom number bound on → RiseFrom (number + 1) bound on ⊎ ((rest : List ℕ) × (on ≡ number ∷ rest) × RiseFrom (number + 1) bound rest)
  first_cases [] rise = inl (rise_none (number + 1) bound)
  first_cases (v ∷ on) rise =
      let low : number ≤ v = All-head (λ (w : ℕ). number ≤ w) v on rise.least_first in
      let rest = rest_above v on low rise in
      ⊎_elim
      (λ same. inr (on, ap (λ (w : ℕ). w ∷ on) same, rest))
      (λ other. inl (record {
        rise = rise.rise;
        least_first = All-cons (λ (w : ℕ). number + 1 ≤ w) v on (omega (arith, low, other)) rest.least_first;
        within = rise.within;
      }))
      (cases_eq v number)

  -- one number more
  pub rising_next : (lists longer new : List (List ℕ)) → AreRising (number + 1) bound lists → longer ≡ map (λ (list : List ℕ). number ∷ list) lists → new ≡ lists ++ longer → AreRising number bound new
  rising_next lists longer new before longer_is is =
      let with_it = map (λ (list : List ℕ). number ∷ list) lists in
      let whole : new ≡ lists ++ with_it = is ∙ ap (λ (ls : List (List ℕ)). lists ++ ls) longer_is in
      record {
        rise = λ on has. ⊎_elim
            (λ old. rise_weaker on (before.rise on old))
            (λ more. let found = behind_from number lists on more in subst (RiseFrom number bound) found.2 (rise_behind found.0 (before.rise found.0 found.1)))
            (Contains-append_cases lists with_it on (subst (λ (ls : List (List ℕ)). Contains ls on) whole has));
        all = λ on rise. subst (λ (ls : List (List ℕ)). Contains ls on) (sym whole) (⊎_elim
            (λ above. Contains-append_left lists with_it on (before.all on above))
            (λ first. subst (Contains (lists ++ with_it)) (sym first.1) (Contains-append_right lists with_it (number ∷ first.0) (behind_has number lists first.0 (before.all first.0 first.2))))
            (first_cases on rise));
      }

-- all of them
pub rising_end : (bound : ℕ) (lists : List (List ℕ)) → AreRising 0 bound lists → (on : List ℕ) → Contains lists on ↔ (Rise on × All (λ (v : ℕ). v < bound) on)
rising_end bound lists are on = (
  λ has. let rise = are.rise on has in (rise.rise, rise.within),
  λ rise. are.all on (record { rise = rise.0; least_first = All-weaker (λ (v : ℕ). v < bound) (λ (v : ℕ). 0 ≤ v) (λ v more. omega arith) on rise.1; within = rise.1 }),
)

-- the lists of variables that an induction may speak of
pub frames_answer : (clause : Clause) (count : ℕ) {E : Type 0} (result : Result (List (List ℕ)) E) → count ≡ length clause.vars →
    IfOk result (λ (lists : List (List ℕ)). (on : List ℕ) → Contains lists on ↔ (Rise on × All (λ (v : ℕ). v < count) on)) →
    IfOk result (λ (lists : List (List ℕ)). (on : List ℕ) → Contains lists on ↔ AreFrameVariables clause on)
frames_answer clause count (Err end) is exact = tt
frames_answer clause count (Ok lists) is exact = λ on. (
  λ has. let found = (exact on).0 has in record { rise = found.0; within = subst (λ (n : ℕ). All (λ (v : ℕ). v < n) on) is found.1 },
  λ are. (exact on).1 (are.rise, subst (λ (n : ℕ). All (λ (v : ℕ). v < n) on) (sym is) are.within),
)

-- What is gathered in a list: of several lists together, of a list item by item, and of the sides of equations.
use Rattle.std.proofs.Common.{◌≡◌, ◌<◌, ◌≤◌, ◌+◌, ◌⊎◌, inl, inr, ⊎_elim, ◌↔◌, ℕ, zero, suc, List, [], ◌∷◌, ◌++◌, length, take, get_or, Some, None, slice_get, Contains, All, Bool, true, false, IsTrue, sym, ap, subst, refl, ◌∙◌, arith}
use Rattle.std.specs.List.{AllZip}
use Rattle.std.proofs.lemmas.List.{take_more, take_all}
use Rattle.std.proofs.lemmas.List.Elements.{Contains-append_left, Contains-append_right, Contains-append_cases, Contains-push, Contains-push_cases, All-get_or}
use Rattle.std.proofs.lemmas.Option.{slice_get_within, get_or_from_slice_get}
use Rattle.std.proofs.lemmas.Grind.{flat_map-append}
use Rattle.px_terms.specs.declared.term.Term.{Term}
use Rattle.px_terms.specs.declared.clause.Equation.{Equation}
use Rattle.px_terms.specs.Sequents.{IsSmallEquation}
use Rattle.px_prover.specs.Settling.{facts_used}
use Rattle.px_prover.specs.Uses.{StandsIn, StandsThere, sides_of}
use Rattle.px_prover.proofs.NoneSoFar.{NoneBelow, read_at}

some_is : {X : Type 0} {x y : X} → Some x ≡ Some y → x ≡ y
some_is e = cc

none_is_some : {X : Type 0} {x : X} → None ≡ Some x → ⊥
none_is_some e = cc

false_is_true : false ≡ true → ⊥
false_is_true e = cc

-- the number behind
next_number : (i : ℕ) → suc i ≡ i + 1
next_number i = omega arith

-- the first items and one more
pub one_more : {X : Type 0} (xs : List X) (i : ℕ) (x : X) → i < length xs → x ≡ get_or xs i x → take (i + 1) xs ≡ take i xs ++ x ∷ []
one_more xs i x within is = take_more xs i x within ∙ ap (λ (y : _). take i xs ++ y ∷ []) (sym is)

-- an item that is read is in the list
pub among_yes : {X : Type 0} (xs : List X) (i : ℕ) (x t : X) → i < length xs → x ≡ get_or xs i x → x ≡ t → IsTrue true ↔ Contains xs t
among_yes {X} xs i x t within is same = (λ yes. (i, within, sym (subst (λ (y : X). y ≡ get_or xs i y) same is)), λ has. refl)

-- no item is it
pub among_none : {X : Type 0} (xs : List X) (n : ℕ) (t : X) → NoneBelow (λ (x : X). x ≡ t) xs n → length xs ≤ n → IsTrue false ↔ Contains xs t
among_none xs n t before past = (
  λ yes. absurd (false_is_true yes),
  λ has. let within = has.1 in absurd (before.none has.0 t (omega (arith, within, past)) (read_at xs has.0 t within (sym has.2)) refl),
)

-- nothing is gathered of nothing
pub once_start : {X : Type 0} (xs kept : List X) → kept ≡ [] → (u : X) → Contains kept u ↔ Contains (take 0 xs) u
once_start {X} xs kept empty u = (
  λ has. let none = subst (λ (us : List X). Contains us u) empty has in absurd (omega (arith, none.1)),
  λ has. absurd (omega (arith, has.1)),
)

-- one more item, as far as it is not there yet
pub once_next : {X : Type 0} (xs kept new : List X) (i : ℕ) (x : X) → i < length xs → x ≡ get_or xs i x → ((u : X) → Contains kept u ↔ Contains (take i xs) u) →
    ((u : X) → Contains new u ↔ (Contains kept u ⊎ (x ≡ u))) → (u : X) → Contains new u ↔ Contains (take (i + 1) xs) u
once_next {X} xs kept new i x within is before more u =
    let whole = one_more xs i x within is in (
      λ has. subst (λ (us : List X). Contains us u) (sym whole) (⊎_elim
          (λ old. Contains-append_left (take i xs) (x ∷ []) u ((before u).0 old))
          (λ (same : x ≡ u). subst (Contains (take i xs ++ x ∷ [])) same (Contains-push (take i xs) x))
          ((more u).0 has)),
      λ has. (more u).1 (⊎_elim
          (λ old. inl ((before u).1 old))
          (λ same. inr same)
          (Contains-push_cases (take i xs) x u (subst (λ (us : List X). Contains us u) whole has))),
    )

pub once_end : {X : Type 0} (xs kept : List X) (i : ℕ) → length xs ≤ i → ((u : X) → Contains kept u ↔ Contains (take i xs) u) → (u : X) → Contains kept u ↔ Contains xs u
once_end {X} xs kept i past before u = subst (λ (us : List X). Contains kept u ↔ Contains us u) (take_all i xs past) (before u)

-- an item that is there is not kept twice
pub is_there : {X : Type 0} (asked kept : List X) (x : X) → asked ≡ kept → Contains asked x → (u : X) → Contains kept u ↔ (Contains kept u ⊎ (x ≡ u))
is_there {X} asked kept x same there u = (
  λ has. inl has,
  ⊎_elim (λ has. has) (λ (e : x ≡ u). subst (Contains kept) e (subst (λ (us : List X). Contains us x) same there)),
)

-- an item is put behind
pub is_put : {X : Type 0} (kept new : List X) (x y : X) → y ≡ x → new ≡ kept ++ y ∷ [] → (u : X) → Contains new u ↔ (Contains kept u ⊎ (x ≡ u))
is_put {X} kept new x y same is u =
    let whole : new ≡ kept ++ x ∷ [] = is ∙ ap (λ (z : X). kept ++ z ∷ []) same in (
      λ has. Contains-push_cases kept x u (subst (λ (us : List X). Contains us u) whole has),
      ⊎_elim
          (λ has. subst (λ (us : List X). Contains us u) (sym whole) (Contains-append_left kept (x ∷ []) u has))
          (λ (e : x ≡ u). subst (λ (us : List X). Contains us u) (sym whole) (subst (Contains (kept ++ x ∷ [])) e (Contains-push kept x))),
    )

-- the items of two lists in pairs, and one more pair
zip_push : {X Y : Type 0} (R : X → Y → Type 0) (xs : List X) (ys : List Y) (x : X) (y : Y) → AllZip R xs ys → R x y → AllZip R (xs ++ x ∷ []) (ys ++ y ∷ [])
zip_push R [] [] x y zip r = (r, tt)
zip_push R [] (b ∷ ys) x y zip r = absurd zip
zip_push R (a ∷ xs) [] x y zip r = absurd zip
zip_push R (a ∷ xs) (b ∷ ys) x y zip r = (zip.0, zip_push R xs ys x y zip.1 r)

-- one more candidate by its number
pub chosen_next : {X : Type 0} (candidates : List X) (numbers : List ℕ) (i : ℕ) (terms new : List X) (x y : X) → All (λ (n : ℕ). n < length candidates) numbers → i < length numbers →
    x ≡ get_or candidates (get_or numbers i 0) x → y ≡ x → new ≡ terms ++ y ∷ [] → AllZip (λ (n : ℕ) (t : X). slice_get candidates n ≡ Some t) (take i numbers) terms →
    AllZip (λ (n : ℕ) (t : X). slice_get candidates n ≡ Some t) (take (i + 1) numbers) new
chosen_next {X} candidates numbers i terms new x y all within is same push before =
    let n = get_or numbers i 0 in
    let below : n < length candidates = All-get_or (λ (m : ℕ). m < length candidates) numbers i 0 within all in
    let stands : slice_get candidates n ≡ Some y = read_at candidates n x below is ∙ ap (λ (z : X). Some z) (sym same) in
    subst (λ (ts : List X). AllZip (λ (m : ℕ) (t : X). slice_get candidates m ≡ Some t) (take (i + 1) numbers) ts) (sym push)
    (subst (λ (ns : List ℕ). AllZip (λ (m : ℕ) (t : X). slice_get candidates m ≡ Some t) ns (terms ++ y ∷ [])) (sym (take_more numbers i 0 within))
    (zip_push (λ (m : ℕ) (t : X). slice_get candidates m ≡ Some t) (take i numbers) terms n y before stands))

-- what stands in a list of sides, by the side
there_in : (sides : List Term) (u : Term) → StandsThere sides u → (s : Term) × Contains sides s × StandsIn u s
there_in sides u there = (there.side, (there.number, slice_get_within sides there.number there.side there.is_side, get_or_from_slice_get sides there.number there.side there.side there.is_side), there.part)

stand_there : (sides : List Term) (u s : Term) → Contains sides s → StandsIn u s → StandsThere sides u
stand_there sides u s has part = record { side = s; number = has.0; is_side = read_at sides has.0 s has.1 (sym has.2); part = part }

there_append : (xs ys : List Term) (u : Term) → StandsThere (xs ++ ys) u ↔ (StandsThere xs u ⊎ StandsThere ys u)
there_append xs ys u = (
  λ there. let found = there_in (xs ++ ys) u there in ⊎_elim
      (λ has. inl (stand_there xs u found.0 has found.2))
      (λ has. inr (stand_there ys u found.0 has found.2))
      (Contains-append_cases xs ys found.0 found.1),
  ⊎_elim
      (λ there. let found = there_in xs u there in stand_there (xs ++ ys) u found.0 (Contains-append_left xs ys found.0 found.1) found.2)
      (λ there. let found = there_in ys u there in stand_there (xs ++ ys) u found.0 (Contains-append_right xs ys found.0 found.1) found.2),
)

-- what stands in one of two sides
there_two : (a b u : Term) → StandsThere (a ∷ b ∷ []) u → StandsIn u a ⊎ StandsIn u b
there_two a b u there = by_number there.number there.side there.is_side there.part
  where
    by_number : (n : ℕ) (s : Term) → slice_get (a ∷ b ∷ []) n ≡ Some s → StandsIn u s → StandsIn u a ⊎ StandsIn u b
    by_number zero s is part = inl (subst (λ (x : Term). StandsIn u x) (sym (some_is is)) part)
    by_number (suc zero) s is part = inr (subst (λ (x : Term). StandsIn u x) (sym (some_is is)) part)
    by_number (suc (suc n)) s is part = absurd (none_is_some is)

pub sides_start : (parts : List Term) → parts ≡ [] → (u : Term) → Contains parts u ↔ StandsThere [] u
sides_start parts empty u = (
  λ has. let none = subst (λ (us : List Term). Contains us u) empty has in absurd (omega (arith, none.1)),
  λ there. absurd (none_is_some there.is_side),
)

-- what stands in the sides of one equation
pub two_sides : (e : Equation) (lefts rights new : List Term) → ((u : Term) → Contains lefts u ↔ StandsIn u e.left) → ((u : Term) → Contains rights u ↔ StandsIn u e.right) → new ≡ lefts ++ rights →
    (u : Term) → Contains new u ↔ StandsThere (e.left ∷ e.right ∷ []) u
two_sides e lefts rights new left right is u = (
  λ has. ⊎_elim
      (λ in_left. record { side = e.left; number = 0; is_side = refl; part = (left u).0 in_left })
      (λ in_right. record { side = e.right; number = 1; is_side = refl; part = (right u).0 in_right })
      (Contains-append_cases lefts rights u (subst (λ (us : List Term). Contains us u) is has)),
  λ there. subst (λ (us : List Term). Contains us u) (sym is) (⊎_elim
      (λ in_left. Contains-append_left lefts rights u ((left u).1 in_left))
      (λ in_right. Contains-append_right lefts rights u ((right u).1 in_right))
      (there_two e.left e.right u there)),
)

-- the sides of one more equation
pub sides_more : (old all : List Equation) (e : Equation) (parts more new : List Term) → all ≡ old ++ e ∷ [] → ((u : Term) → Contains parts u ↔ StandsThere (sides_of old) u) →
    ((u : Term) → Contains more u ↔ StandsThere (e.left ∷ e.right ∷ []) u) → new ≡ parts ++ more → (u : Term) → Contains new u ↔ StandsThere (sides_of all) u
sides_more old all e parts more new all_is before own is u =
    let last : List Term = e.left ∷ e.right ∷ [] in
    let whole : sides_of all ≡ sides_of old ++ last = ap sides_of all_is ∙ flat_map-append (λ (x : Equation). x.left ∷ x.right ∷ []) old (e ∷ []) in (
      λ has. subst (λ (ss : List Term). StandsThere ss u) (sym whole) ((there_append (sides_of old) last u).1 (⊎_elim
          (λ first. inl ((before u).0 first))
          (λ here. inr ((own u).0 here))
          (Contains-append_cases parts more u (subst (λ (us : List Term). Contains us u) is has)))),
      λ there. subst (λ (us : List Term). Contains us u) (sym is) (⊎_elim
          (λ first. Contains-append_left parts more u ((before u).1 first))
          (λ here. Contains-append_right parts more u ((own u).1 here))
          ((there_append (sides_of old) last u).0 (subst (λ (ss : List Term). StandsThere ss u) whole there))),
    )

-- the sides of the next equation
pub sides_next : (es : List Equation) (i : ℕ) (e : Equation) (parts more new : List Term) → i < length es → e ≡ get_or es i e → ((u : Term) → Contains parts u ↔ StandsThere (sides_of (take i es)) u) →
    ((u : Term) → Contains more u ↔ StandsThere (e.left ∷ e.right ∷ []) u) → new ≡ parts ++ more → (u : Term) → Contains new u ↔ StandsThere (sides_of (take (i + 1) es)) u
sides_next es i e parts more new within is before own new_is = sides_more (take i es) (take (i + 1) es) e parts more new (one_more es i e within is) before own new_is

none_used : (used : List Bool) → facts_used used [] ≡ []
none_used [] = refl
none_used (true ∷ used) = refl
none_used (false ∷ used) = refl

-- one more fact that is used
used_more : (used : List Bool) (facts : List Equation) (i : ℕ) (e : Equation) → i < length facts → e ≡ get_or facts i e → slice_get used i ≡ Some true → facts_used used (take (suc i) facts) ≡ facts_used used (take i facts) ++ e ∷ []
used_more [] facts i e within is at = absurd (none_is_some at)
used_more (b ∷ used) [] i e within is at = absurd (omega (arith, within))
used_more (true ∷ used) (f ∷ facts) zero e within is at = λ k. sym is k ∷ none_used used k
used_more (false ∷ used) (f ∷ facts) zero e within is at = absurd (false_is_true (some_is at))
used_more (true ∷ used) (f ∷ facts) (suc i) e within is at = ap (λ (es : List Equation). f ∷ es) (used_more used facts i e (omega (arith, within)) is at)
used_more (false ∷ used) (f ∷ facts) (suc i) e within is at = used_more used facts i e (omega (arith, within)) is at

-- one more fact that is not used
used_same : (used : List Bool) (facts : List Equation) (i : ℕ) → ¬ (slice_get used i ≡ Some true) → facts_used used (take (suc i) facts) ≡ facts_used used (take i facts)
used_same [] facts i other = refl
used_same (b ∷ used) [] zero other = refl
used_same (b ∷ used) [] (suc i) other = refl
used_same (true ∷ used) (f ∷ facts) zero other = absurd (other refl)
used_same (false ∷ used) (f ∷ facts) zero other = none_used used
used_same (true ∷ used) (f ∷ facts) (suc i) other = ap (λ (es : List Equation). f ∷ es) (used_same used facts i other)
used_same (false ∷ used) (f ∷ facts) (suc i) other = used_same used facts i other

-- the sides of the next fact, which is used
pub used_next : (used : List Bool) (facts : List Equation) (i : ℕ) (e : Equation) (parts more new : List Term) → i < length facts → e ≡ get_or facts i e → slice_get used i ≡ Some true →
    ((u : Term) → Contains parts u ↔ StandsThere (sides_of (facts_used used (take i facts))) u) → ((u : Term) → Contains more u ↔ StandsThere (e.left ∷ e.right ∷ []) u) → new ≡ parts ++ more →
    (u : Term) → Contains new u ↔ StandsThere (sides_of (facts_used used (take (i + 1) facts))) u
used_next used facts i e parts more new within is at before own new_is =
    let whole : facts_used used (take (i + 1) facts) ≡ facts_used used (take i facts) ++ e ∷ [] = subst (λ (n : ℕ). facts_used used (take n facts) ≡ facts_used used (take i facts) ++ e ∷ []) (next_number i) (used_more used facts i e within is at) in
    sides_more (facts_used used (take i facts)) (facts_used used (take (i + 1) facts)) e parts more new whole before own new_is

-- the next fact is not used
pub used_passes : (used : List Bool) (facts : List Equation) (i : ℕ) (parts : List Term) → ¬ (slice_get used i ≡ Some true) → ((u : Term) → Contains parts u ↔ StandsThere (sides_of (facts_used used (take i facts))) u) →
    (u : Term) → Contains parts u ↔ StandsThere (sides_of (facts_used used (take (i + 1) facts))) u
used_passes used facts i parts other before u =
    let same : facts_used used (take i facts) ≡ facts_used used (take (i + 1) facts) = sym (used_same used facts i other) ∙ ap (λ (n : ℕ). facts_used used (take n facts)) (next_number i) in
    subst (λ (es : List Equation). Contains parts u ↔ StandsThere (sides_of es) u) same (before u)

pub used_start : (used : List Bool) (parts : List Term) → parts ≡ [] → (u : Term) → Contains parts u ↔ StandsThere (sides_of (facts_used used [])) u
used_start used parts empty u = subst (λ (es : List Equation). Contains parts u ↔ StandsThere (sides_of es) u) (sym (none_used used)) (sides_start parts empty u)

pub used_end : (used : List Bool) (facts : List Equation) (i : ℕ) (parts : List Term) → length facts ≤ i → ((u : Term) → Contains parts u ↔ StandsThere (sides_of (facts_used used (take i facts))) u) →
    (u : Term) → Contains parts u ↔ StandsThere (sides_of (facts_used used facts)) u
used_end used facts i parts past before u = subst (λ (es : List Equation). Contains parts u ↔ StandsThere (sides_of (facts_used used es)) u) (take_all i facts past) (before u)

-- what stands in the sides of two lists of equations
pub both_sides : (first second : List Equation) (parts more new : List Term) → ((u : Term) → Contains parts u ↔ StandsThere (sides_of first) u) → ((u : Term) → Contains more u ↔ StandsThere (sides_of second) u) →
    new ≡ parts ++ more → (u : Term) → Contains new u ↔ StandsThere (sides_of first ++ sides_of second) u
both_sides first second parts more new before after is u = (
  λ has. (there_append (sides_of first) (sides_of second) u).1 (⊎_elim
      (λ one. inl ((before u).0 one))
      (λ other. inr ((after u).0 other))
      (Contains-append_cases parts more u (subst (λ (us : List Term). Contains us u) is has))),
  λ there. subst (λ (us : List Term). Contains us u) (sym is) (⊎_elim
      (λ one. Contains-append_left parts more u ((before u).1 one))
      (λ other. Contains-append_right parts more u ((after u).1 other))
      ((there_append (sides_of first) (sides_of second) u).0 there)),
)

pub sides_end : (es : List Equation) (i : ℕ) (parts : List Term) → length es ≤ i → ((u : Term) → Contains parts u ↔ StandsThere (sides_of (take i es)) u) → (u : Term) → Contains parts u ↔ StandsThere (sides_of es) u
sides_end es i parts past before u = subst (λ (xs : List Equation). Contains parts u ↔ StandsThere (sides_of xs) u) (take_all i es past) (before u)

-- an equation among small ones is small
pub item_small : (es : List Equation) (i : ℕ) (e : Equation) → All IsSmallEquation es → i < length es → e ≡ get_or es i e → IsSmallEquation e
item_small es i e all within is = subst (λ (x : Equation). IsSmallEquation x) (sym is) (All-get_or (λ (x : Equation). IsSmallEquation x) es i e within all)

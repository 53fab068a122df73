-- The index of the obligations, as it grows.
use Rattle.std.proofs.Common.{◌≡◌, ◌↔◌, ◌⊎◌, inl, inr, ℕ, ◌+◌, ◌*◌, ◌<◌, ◌≤◌, ◌^◌, cond, eqb, List, [], ◌∷◌, ◌++◌, length, take, get_or, Some}
use Rattle.std.proofs.Common.{Result, Ok, Err, OnOk, refl, sym, ◌∙◌, ap, subst, arith, lit<}
use Rattle.std.specs.Prelude.{slice_get}
use Rattle.std.proofs.lemmas.List.{take_more, take_all, length-take-le}
use Rattle.px_base.specs.declared.prop.Prop.{Prop}
use Rattle.px_base.specs.declared.prop.Prop.TheVariants.{Comm, Assoc, Idem, Sel, Refl, Irrefl, Sym, Antisym, Asym, Trans, Conn}
use Rattle.px_base.specs.PropSets.{prop_number}
use Rattle.px_terms.specs.declared.program.Declared.{Declared}
use Rattle.px_terms.specs.declared.program.Declared.TheVariants as declared
use Rattle.px_equations.specs.declared.index.TheConstants.{NO_NUMBER}
use Rattle.px_equations.specs.declared.index.Index.{Index}
use Rattle.px_equations.specs.Index.{number_at, place_of, first_in, IsBelow, IsIndex}
use Rattle.px_equations.proofs.Lists.{found_more, found_front, found_last}

-- the property of a number
prop_at : ℕ → Prop
prop_at n =
    cond (eqb n 0) Comm (cond (eqb n 1) Assoc (cond (eqb n 2) Idem (cond (eqb n 3) Sel (cond (eqb n 4) Refl
    (cond (eqb n 5) Irrefl (cond (eqb n 6) Sym (cond (eqb n 7) Antisym (cond (eqb n 8) Asym (cond (eqb n 9) Trans Conn)))))))))

prop_at_number : (p : Prop) → prop_at (prop_number p) ≡ p
unfolding prop_at
prop_at_number Comm = refl
prop_at_number Assoc = refl
prop_at_number Idem = refl
prop_at_number Sel = refl
prop_at_number Refl = refl
prop_at_number Irrefl = refl
prop_at_number Sym = refl
prop_at_number Antisym = refl
prop_at_number Asym = refl
prop_at_number Trans = refl
prop_at_number Conn = refl

number_below : (p : Prop) → prop_number p < 11
number_below Comm = lit< tt
number_below Assoc = lit< tt
number_below Idem = lit< tt
number_below Sel = lit< tt
number_below Refl = lit< tt
number_below Irrefl = lit< tt
number_below Sym = lit< tt
number_below Antisym = lit< tt
number_below Asym = lit< tt
number_below Trans = lit< tt
number_below Conn = lit< tt

one_row : (m n a b : ℕ) → a < 11 → b < 11 → m * 11 + a ≡ n * 11 + b → m ≡ n
one_row m n a b h k e = omega arith

one_column : (m n a b : ℕ) → a < 11 → b < 11 → m * 11 + a ≡ n * 11 + b → a ≡ b
one_column m n a b h k e = omega arith

same_place : (m n : ℕ) (q p : Prop) → place_of m q ≡ place_of n p → declared.Property m q ≡ declared.Property n p
same_place m n q p e =
    let row : m ≡ n = one_row m n (prop_number q) (prop_number p) (number_below q) (number_below p) e in
    let column : prop_number q ≡ prop_number p = one_column m n (prop_number q) (prop_number p) (number_below q) (number_below p) e in
    let prop : q ≡ p = sym (prop_at_number q) ∙ ap prop_at column ∙ prop_at_number p in
    λ i. declared.Property (row i) (prop i)

one_place : (m n : ℕ) (q p : Prop) → declared.Property m q ≡ declared.Property n p → place_of m q ≡ place_of n p
one_place m n q p e = cc

-- the list has the number at the place, where a greater one stood
abbrev pub Lowers : List ℕ → List ℕ → ℕ → ℕ → Type 0
Lowers old new place number = (at n : ℕ) → n < 2 ^ 32 → (number_at new at < n) ↔ ((number_at old at < n) ⊎ ((at ≡ place) × (number < n)))

-- the index has the number of what is declared, where a greater one stood
abbrev pub Enters : Index → Index → Declared → ℕ → Type 0
Enters old new d number = (e : Declared) (n : ℕ) → n < 2 ^ 32 → (first_in new e < n) ↔ ((first_in old e < n) ⊎ ((e ≡ d) × (number < n)))

nothing_new : {A B : Type 0} → (B → ⊥) → A ↔ (A ⊎ B)
nothing_new no_other = (λ a. inl a, λ e. elim e [ inl a ↦ a | inr b ↦ absurd (no_other b) ])

other_way : {A B C D : Type 0} → A ↔ (B ⊎ C) → (C → D) → (D → C) → A ↔ (B ⊎ D)
other_way h f g = (λ a. elim (h.0 a) [ inl b ↦ inl b | inr c ↦ inr (f c) ], λ e. elim e [ inl b ↦ h.1 (inl b) | inr d ↦ h.1 (inr (g d)) ])

pub enter_property : {E : Type 0} (index : Index) (new : List ℕ) (d : Declared) (n : ℕ) (p : Prop) (place number : ℕ) (r : Result (Unit {0}) E) →
    d ≡ declared.Property n p → place ≡ place_of n p → OnOk r (Lowers index.properties new place number) →
    OnOk r (Enters index (record { properties = new; lemmas = index.lemmas }) d number)
enter_property index new d n p place number (Ok u) is at lowers = enters
  where
    enters : Enters index (record { properties = new; lemmas = index.lemmas }) d number
    enters (declared.Property m q) k small =
        other_way (lowers (place_of m q) k small) (λ c. (same_place m n q p (c.0 ∙ at) ∙ sym is, c.1)) (λ c. (one_place m n q p (c.0 ∙ is) ∙ sym at, c.1))
    enters (declared.Lemma i) k small = nothing_new (λ c. no_lemma (c.0 ∙ is))
      where
        no_lemma : declared.Lemma i ≡ declared.Property n p → ⊥
        no_lemma e = cc
enter_property index new d n p place number (Err e) is at lowers = tt

pub enter_lemma : {E : Type 0} (index : Index) (new : List ℕ) (d : Declared) (i number : ℕ) (r : Result (Unit {0}) E) →
    d ≡ declared.Lemma i → OnOk r (Lowers index.lemmas new i number) → OnOk r (Enters index (record { properties = index.properties; lemmas = new }) d number)
enter_lemma index new d i number (Ok u) is lowers = enters
  where
    enters : Enters index (record { properties = index.properties; lemmas = new }) d number
    enters (declared.Property m q) k small = nothing_new (λ c. no_property (c.0 ∙ is))
      where
        no_property : declared.Property m q ≡ declared.Lemma i → ⊥
        no_property e = cc
    enters (declared.Lemma j) k small =
        other_way (lowers j k small) (λ c. (ap declared.Lemma c.0 ∙ sym is, c.1)) (λ c. (same_lemma (c.0 ∙ is), c.1))
      where
        same_lemma : declared.Lemma j ≡ declared.Lemma i → j ≡ i
        same_lemma e = cc
enter_lemma index new d i number (Err e) is lowers = tt

-- what is below in a list with one more
below_more : (all : List Declared) (d e : Declared) (n : ℕ) → IsBelow (all ++ d ∷ []) n e ↔ (IsBelow all n e ⊎ ((e ≡ d) × (length all < n)))
below_more all d e n = (λ b. there b (found_more all d b.number e b.stands), λ h. elim h [ inl b ↦ front b | inr at ↦ last at.0 at.1 ])
  where
    there : (b : IsBelow (all ++ d ∷ []) n e) → (slice_get all b.number ≡ Some e) ⊎ ((b.number ≡ length all) × (d ≡ e)) →
        IsBelow all n e ⊎ ((e ≡ d) × (length all < n))
    there b (inl stands) = inl record { number = b.number; below = b.below; stands = stands }
    there b (inr (at, same)) = inr (sym same, subst (λ (k : ℕ). k < n) at b.below)

    front : IsBelow all n e → IsBelow (all ++ d ∷ []) n e
    front b = record { number = b.number; below = b.below; stands = found_front all (d ∷ []) b.number e b.stands }

    last : e ≡ d → length all < n → IsBelow (all ++ d ∷ []) n e
    last same less = record { number = length all; below = less; stands = found_last all d ∙ ap (λ (x : Declared). Some x) (sym same) }

both_ways : {A B C D E : Type 0} → A ↔ (B ⊎ C) → B ↔ D → E ↔ (D ⊎ C) → A ↔ E
both_ways f g h = (
  λ a. h.1 (elim (f.0 a) [ inl b ↦ inl (g.0 b) | inr c ↦ inr c ]),
  λ e. f.1 (elim (h.0 e) [ inl d ↦ inl (g.1 d) | inr c ↦ inr c ]),
)

none_first : (e : Declared) → first_in (record { properties = []; lemmas = [] }) e ≡ NO_NUMBER
none_first (declared.Property n p) = refl
none_first (declared.Lemma i) = refl

none_below : (e : Declared) (n : ℕ) → IsBelow [] n e → ⊥
none_below e n b = absurd (nothing b.number b.stands)
  where
    nothing : (k : ℕ) → slice_get [] k ≡ Some e → ⊥
    nothing k stands = cc

too_great : (n first : ℕ) → first ≡ NO_NUMBER → n < 2 ^ 32 → first < n → ⊥
too_great n first e small less = omega (arith, e)

pub index_start : (properties lemmas : List ℕ) → properties ≡ [] → lemmas ≡ [] → IsIndex [] (record { properties = properties; lemmas = lemmas })
index_start properties lemmas e f =
    rw (e, f) record { first = λ d n small. (λ less. absurd (too_great n _ (none_first d) small less), λ b. absurd (none_below d n b)) }

pub index_next : (all : List Declared) (k : ℕ) (old new : Index) (d : Declared) → k < length all → Enters old new (get_or all k d) k →
    IsIndex (take k all) old → IsIndex (take (k + 1) all) new
index_next all k old new d below enters index =
    subst (λ (xs : List Declared). IsIndex xs new) (sym (take_more all k d below)) record { first = λ e n small. step e n small }
  where
    counted : length (take k all) ≡ k
    counted = length-take-le k all (omega arith)

    step : (e : Declared) (n : ℕ) → n < 2 ^ 32 → (first_in new e < n) ↔ IsBelow (take k all ++ get_or all k d ∷ []) n e
    step e n small =
        both_ways (enters e n small) (index.first e n small)
        (subst (λ (j : ℕ). IsBelow (take k all ++ get_or all k d ∷ []) n e ↔ (IsBelow (take k all) n e ⊎ ((e ≡ get_or all k d) × (j < n)))) counted
        (below_more (take k all) (get_or all k d) e n))

pub index_end : (all : List Declared) (k : ℕ) (index : Index) → length all ≤ k → IsIndex (take k all) index → IsIndex all index
index_end all k index past is = subst (λ (xs : List Declared). IsIndex xs index) (take_all k all past) is

-- What is known of a function at no place of the text, as the code finds it.
use Rattle.std.proofs.Common.{◌≡◌, ◌↔◌, ◌⊎◌, inl, inr, ℕ, zero, suc, ◌+◌, ◌<◌, ◌≤◌, Bool, true, false, not, ◌&&◌, ◌||◌, IsTrue, List, [], ◌∷◌, ◌++◌, length}
use Rattle.std.proofs.Common.{get_or, take, refl, sym, ◌∙◌, ap, subst, arith, lit<}
use Rattle.std.specs.List.{list_any}
use Rattle.std.proofs.lemmas.Bool.{false≢true}
use Rattle.std.proofs.lemmas.Bool.Decides.{same_from_decides}
use Rattle.std.proofs.lemmas.List.{take_more, take_all}
use Rattle.px_base.specs.declared.prop.Prop.{Prop}
use Rattle.px_base.specs.declared.prop.Prop.TheVariants.{Comm, Assoc, Idem, Sel, Refl, Irrefl, Sym, Antisym, Asym, Trans, Conn}
use Rattle.px_base.specs.declared.prop.PropSet.{PropSet}
use Rattle.px_base.specs.declared.head.Head.{Head}
use Rattle.px_base.specs.declared.head.Head.TheVariants.{Def}
use Rattle.px_base.specs.PropSets.{prop_number, has_prop, HasProp, all_props}
use Rattle.px_terms.specs.declared.program.Declared.{Declared}
use Rattle.px_terms.specs.declared.program.Program.{Program}
use Rattle.px_terms.specs.declared.sequent.Context.{Context}
use Rattle.px_terms.specs.Implied.{Closure, known, sel_gives_idem, conn_gives_refl, asym_gives_irrefl, asym_gives_antisym, irrefl_and_trans_give_asym}
use Rattle.px_terms.specs.Typing.{anywhere, IsSaid, IsKnown}
use Rattle.px_props.specs.Sets.{IsSetOf, IsClosure}
use Rattle.px_types.specs.declared.knowledge.TheConstants.{NONE}
use Rattle.px_types.specs.Outcome.{is_property_of, has_wanted}
use Rattle.px_types.specs.TypeOf.{at_no_place}
use Rattle.px_types.proofs.Known.{decides_said, decides_wanted}

-- no property is in the empty set
pub none_has : (p : Prop) → has_prop NONE p ≡ false
none_has Comm = refl
none_has Assoc = refl
none_has Idem = refl
none_has Sel = refl
none_has Refl = refl
none_has Irrefl = refl
none_has Sym = refl
none_has Antisym = refl
none_has Asym = refl
none_has Trans = refl
none_has Conn = refl

pub none_in : (p : Prop) → ¬ HasProp NONE p
none_in p h = false≢true (sym (none_has p) ∙ h)

-- Whether one set includes another.
abbrev pub IncludesSo : PropSet → PropSet → ℕ → Type 0
IncludesSo set wanted i = (k : ℕ) (d : Prop) → k < i → HasProp wanted (get_or all_props k d) → HasProp set (get_or all_props k d)

pub includes_start : (set wanted : PropSet) → IncludesSo set wanted 0
includes_start set wanted k d h = absurd (omega arith)

neither : (x y : Bool) → (x && not y) ≡ false → x ≡ true → y ≡ true
neither true true e f = refl
neither true false e f = absurd (false≢true (sym e))
neither false y e f = absurd (false≢true f)

both : (x y : Bool) → (x && not y) ≡ true → (x ≡ true) × (y ≡ false)
both true true e = absurd (false≢true e)
both true false e = (refl, refl)
both false y e = absurd (false≢true e)

pub same_item : {X : Type 0} (xs : List X) (i : ℕ) (d e : X) → i < length xs → get_or xs i d ≡ get_or xs i e
same_item [] i d e h = absurd (omega arith)
same_item (x ∷ xs) zero d e h = refl
same_item (x ∷ xs) (suc i) d e h = same_item xs i d e (omega arith)

below_next : (k i : ℕ) → k < i + 1 → (k < i) ⊎ (k ≡ i)
below_next zero zero h = inr refl
below_next zero (suc i) h = inl (omega arith)
below_next (suc k) zero h = absurd (omega arith)
below_next (suc k) (suc i) h = elim (below_next k i (omega arith)) [ inl less ↦ inl (omega arith) | inr same ↦ inr (ap suc same) ]

module _ (set wanted : PropSet) where
  pub includes_next : (i : ℕ) (d : Prop) (r : Bool) → i < length all_props →
      r ≡ (has_prop wanted (get_or all_props i d) && not (has_prop set (get_or all_props i d))) → r ≡ false → IncludesSo set wanted i →
      IncludesSo set wanted (i + 1)
  includes_next i d r h e f so k e_ below wants = go (below_next k i below)
    where
      go : (k < i) ⊎ (k ≡ i) → HasProp set (get_or all_props k e_)
      go (inl less) = so k e_ less wants
      go (inr same) =
          let item : get_or all_props k e_ ≡ get_or all_props i d = ap (λ j. get_or all_props j e_) same ∙ same_item all_props i e_ d h in
          subst (HasProp set) (sym item) (neither _ _ (sym e ∙ f) (subst (HasProp wanted) item wants))

  pub includes_fails : (i : ℕ) (d : Prop) (r : Bool) → r ≡ (has_prop wanted (get_or all_props i d) && not (has_prop set (get_or all_props i d))) → r ≡ true →
      IsTrue false ↔ ((p : Prop) → HasProp wanted p → HasProp set p)
  includes_fails i d r e t =
      let two = both _ _ (sym e ∙ t) in
      (λ no_truth. absurd (false≢true no_truth), λ all. absurd (false≢true (sym two.1 ∙ all (get_or all_props i d) two.0)))

  at_number : (p : Prop) → get_or all_props (prop_number p) Comm ≡ p
  at_number Comm = refl
  at_number Assoc = refl
  at_number Idem = refl
  at_number Sel = refl
  at_number Refl = refl
  at_number Irrefl = refl
  at_number Sym = refl
  at_number Antisym = refl
  at_number Asym = refl
  at_number Trans = refl
  at_number Conn = refl

  number_below : (p : Prop) → prop_number p < 11
  number_below Comm = lit< tt
  number_below Assoc = lit< tt
  number_below Idem = lit< tt
  number_below Sel = lit< tt
  number_below Refl = lit< tt
  number_below Irrefl = lit< tt
  number_below Sym = lit< tt
  number_below Antisym = lit< tt
  number_below Asym = lit< tt
  number_below Trans = lit< tt
  number_below Conn = lit< tt

  pub includes_end : (i : ℕ) → 11 ≤ i → IncludesSo set wanted i → IsTrue true ↔ ((p : Prop) → HasProp wanted p → HasProp set p)
  includes_end i h so = (
    λ _ p wants. subst (HasProp set) (at_number p)
        (so (prop_number p) Comm (omega (arith, number_below p)) (subst (HasProp wanted) (sym (at_number p)) wants)),
    λ _. refl,
  )

-- The properties that are declared of a definition.
abbrev pub DeclaredSo : ℕ → PropSet → List Declared → ℕ → Type 0
DeclaredSo n set declared i = IsSetOf set (λ (p : Prop). IsTrue (list_any (is_property_of n p) (take i declared)))

any_last : {X : Type 0} (test : X → Bool) (xs : List X) (x : X) → list_any test (xs ++ x ∷ []) ≡ (list_any test xs || test x)
any_last test [] x = go (test x)
  where
    go : (b : Bool) → (b || false) ≡ (false || b)
    go true = refl
    go false = refl
any_last test (y ∷ ys) x = go (test y) (any_last test ys x)
  where
    go : (b : Bool) → list_any test (ys ++ x ∷ []) ≡ (list_any test ys || test x) → (b || list_any test (ys ++ x ∷ [])) ≡ ((b || list_any test ys) || test x)
    go true e = refl
    go false e = e

or_is : (x y : Bool) → (IsTrue x ⊎ IsTrue y) ↔ IsTrue (x || y)
or_is true y = (λ _. refl, λ _. inl refl)
or_is false y = (λ h. elim h [ inl e ↦ absurd (false≢true e) | inr e ↦ e ], λ e. inr e)

pub declared_start : (n : ℕ) (set : PropSet) (declared : List Declared) → set ≡ NONE → DeclaredSo n set declared 0
declared_start n set declared e p = (λ h. absurd (none_in p (subst (λ (s : PropSet). HasProp s p) e h)), λ h. absurd (false≢true h))

pub declared_next : (n : ℕ) (set more : PropSet) (declared looked : List Declared) → looked ≡ declared → (i : ℕ) (d : Declared) → i < length looked →
    d ≡ get_or looked i d → IsSetOf more (λ (p : Prop). HasProp set p ⊎ IsTrue (is_property_of n p d)) → DeclaredSo n set declared i →
    DeclaredSo n more declared (i + 1)
declared_next n set more declared looked same i d h is adds so p =
    let item : d ≡ get_or declared i d = is ∙ ap (λ (zs : List Declared). get_or zs i d) same in
    let below : i < length declared = rw same at h in
    let taken : take (i + 1) declared ≡ take i declared ++ d ∷ [] = take_more declared i d below ∙ ap (λ x. take i declared ++ x ∷ []) (sym item) in
    let any : list_any (is_property_of n p) (take (i + 1) declared) ≡ (list_any (is_property_of n p) (take i declared) || is_property_of n p d) =
    ap (list_any (is_property_of n p)) taken ∙ any_last (is_property_of n p) (take i declared) d in
    let either = or_is (list_any (is_property_of n p) (take i declared)) (is_property_of n p d) in
    (λ m. any ∙ either.0 (in_front ((adds p).0 m)), λ m. (adds p).1 (behind (either.1 (sym any ∙ m))))
  where
    in_front : HasProp set p ⊎ IsTrue (is_property_of n p d) → IsTrue (list_any (is_property_of n p) (take i declared)) ⊎ IsTrue (is_property_of n p d)
    in_front (inl e) = inl ((so p).0 e)
    in_front (inr e) = inr e

    behind : IsTrue (list_any (is_property_of n p) (take i declared)) ⊎ IsTrue (is_property_of n p d) → HasProp set p ⊎ IsTrue (is_property_of n p d)
    behind (inl e) = inl ((so p).1 e)
    behind (inr e) = inr e

pub declared_end : (n : ℕ) (set : PropSet) (declared looked : List Declared) → looked ≡ declared → (i : ℕ) → length looked ≤ i → DeclaredSo n set declared i →
    IsSetOf set (λ (p : Prop). IsTrue (list_any (is_property_of n p) declared))
declared_end n set declared looked same i h so p =
    let over : length declared ≤ i = rw same at h in
    subst (λ (xs : List Declared). HasProp set p ↔ IsTrue (list_any (is_property_of n p) xs)) (take_all i declared over) (so p)

-- What is said, and what follows.
module _ (P : Program) (context : Context) where
  abbrev Said : Head → Prop → Type 0
  Said h p = IsSaid P anywhere context h p

  pub said_of_definition : (set : PropSet) (h : Head) (n : ℕ) → h ≡ Def n → IsSetOf set (λ (p : Prop). IsTrue (list_any (is_property_of n p) P.declared)) →
      IsSetOf set (Said h)
  said_of_definition set h n is all p =
      let tells = decides_said (at_no_place P context) (Def n) p in
      subst (λ (g : Head). HasProp set p ↔ Said g p) (sym is) (λ m. tells.0 ((all p).0 m), λ m. (all p).1 (tells.1 m))

  to_known : {A B : Prop → Type 0} → ((p : Prop) → A p → B p) → {p : Prop} → Closure A p → Closure B p
  to_known f (known k) = known (f _ k)
  to_known f (sel_gives_idem k) = sel_gives_idem (to_known f k)
  to_known f (conn_gives_refl k) = conn_gives_refl (to_known f k)
  to_known f (asym_gives_irrefl k) = asym_gives_irrefl (to_known f k)
  to_known f (asym_gives_antisym k) = asym_gives_antisym (to_known f k)
  to_known f (irrefl_and_trans_give_asym k l) = irrefl_and_trans_give_asym (to_known f k) (to_known f l)

  -- all that is wanted is known, where no property is wanted or what is said implies each
  abbrev Wanted : Head → PropSet → Type 0
  Wanted h wanted = (p : Prop) → HasProp wanted p → IsKnown P anywhere context h p

  pub wanted_none : (h : Head) (wanted : PropSet) (r : Bool) → (IsTrue r ↔ ((p : Prop) → HasProp wanted p → HasProp NONE p)) → r ≡ true →
      r ≡ has_wanted (at_no_place P context) h wanted
  wanted_none h wanted r nothing e =
      e ∙ sym ((decides_wanted (at_no_place P context) h wanted).1 (λ p wants. absurd (none_in p (nothing.0 e p wants))))

  pub wanted_all : (h : Head) (wanted said closed : PropSet) (r : Bool) → IsSetOf said (Said h) → IsClosure said closed →
      (IsTrue r ↔ ((p : Prop) → HasProp wanted p → HasProp closed p)) → r ≡ has_wanted (at_no_place P context) h wanted
  wanted_all h wanted said closed r is closes all =
      same_from_decides r _ (
        λ e p wants. to_known (λ q. (is q).0) ((closes p).0 (all.0 e p wants)),
        λ knows. all.1
            (λ p wants. (closes p).1 (to_known (λ q. (is q).1) (knows p wants))),
      ) (decides_wanted (at_no_place P context) h wanted)

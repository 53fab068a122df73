-- The properties that are known of a function, as the code finds them.
use Rattle.std.proofs.Common.{◌≡◌, ◌↔◌, ◌⊎◌, inl, inr, ℕ, zero, suc, ◌+◌, ◌<◌, ◌≤◌, Bool, true, false, not, ◌&&◌, IsTrue, List, [], ◌∷◌, length, get_or}
use Rattle.std.proofs.Common.{refl, sym, ◌∙◌, ap, subst, arith, lit<}
use Rattle.std.proofs.lemmas.Bool.{false≢true}
use Rattle.px_base.specs.declared.prop.Prop.{Prop}
use Rattle.px_base.specs.declared.prop.Prop.TheVariants.{Comm, Assoc, Idem, Sel, Refl, Irrefl, Sym, Antisym, Asym, Trans, Conn}
use Rattle.px_base.specs.declared.prop.PropSet.{PropSet}
use Rattle.px_base.specs.PropSets.{prop_number, has_prop, HasProp, all_props}
use Rattle.px_terms.specs.Implied.{Closure, known, sel_gives_idem, conn_gives_refl, asym_gives_irrefl, asym_gives_antisym, irrefl_and_trans_give_asym}
use Rattle.px_props.specs.Sets.{IsSetOf, IsClosure}

-- the closure of less is less
pub closure_maps : {K L : Prop → Type 0} → ((p : Prop) → K p → L p) → {p : Prop} → Closure K p → Closure L p
closure_maps f (known k) = known (f _ k)
closure_maps f (sel_gives_idem k) = sel_gives_idem (closure_maps f k)
closure_maps f (conn_gives_refl k) = conn_gives_refl (closure_maps f k)
closure_maps f (asym_gives_irrefl k) = asym_gives_irrefl (closure_maps f k)
closure_maps f (asym_gives_antisym k) = asym_gives_antisym (closure_maps f k)
closure_maps f (irrefl_and_trans_give_asym k l) = irrefl_and_trans_give_asym (closure_maps f k) (closure_maps f l)

-- what follows from nothing is nothing
pub some_known : {K : Prop → Type 0} {p : Prop} → Closure K p → (q : Prop) × K q
some_known (known {p} k) = (p, k)
some_known (sel_gives_idem k) = some_known k
some_known (conn_gives_refl k) = some_known k
some_known (asym_gives_irrefl k) = some_known k
some_known (asym_gives_antisym k) = some_known k
some_known (irrefl_and_trans_give_asym k l) = some_known k

-- the closure of what is said
pub known_is : (Says : Prop → Type 0) (said closed : PropSet) → IsSetOf said Says → IsClosure said closed → IsSetOf closed (Closure Says)
known_is Says said closed is closes p =
    (λ h. closure_maps (λ q k. (is q).0 k) ((closes p).0 h), λ k. (closes p).1 (closure_maps (λ q s. (is q).1 s) k))

-- a set by its entries
pub set_by : (R : Prop → Type 0) (b0 b1 b2 b3 b4 b5 b6 b7 b8 b9 b10 : Bool) → (IsTrue b0 ↔ R Comm) → (IsTrue b1 ↔ R Assoc) → (IsTrue b2 ↔ R Idem) →
    (IsTrue b3 ↔ R Sel) → (IsTrue b4 ↔ R Refl) → (IsTrue b5 ↔ R Irrefl) → (IsTrue b6 ↔ R Sym) → (IsTrue b7 ↔ R Antisym) → (IsTrue b8 ↔ R Asym) →
    (IsTrue b9 ↔ R Trans) → (IsTrue b10 ↔ R Conn) →
    IsSetOf (record { has = b0 ∷ b1 ∷ b2 ∷ b3 ∷ b4 ∷ b5 ∷ b6 ∷ b7 ∷ b8 ∷ b9 ∷ b10 ∷ [] }) R
set_by R b0 b1 b2 b3 b4 b5 b6 b7 b8 b9 b10 h0 h1 h2 h3 h4 h5 h6 h7 h8 h9 h10 = each
  where
    each : IsSetOf (record { has = b0 ∷ b1 ∷ b2 ∷ b3 ∷ b4 ∷ b5 ∷ b6 ∷ b7 ∷ b8 ∷ b9 ∷ b10 ∷ [] }) R
    each Comm = h0
    each Assoc = h1
    each Idem = h2
    each Sel = h3
    each Refl = h4
    each Irrefl = h5
    each Sym = h6
    each Antisym = h7
    each Asym = h8
    each Trans = h9
    each Conn = h10

-- Whether one set includes another.
abbrev pub IncludesSo : PropSet → PropSet → ℕ → Type 0
IncludesSo set wanted i = (k : ℕ) (d : Prop) → k < i → HasProp wanted (get_or all_props k d) → HasProp set (get_or all_props k d)

pub includes_start : (set wanted : PropSet) → IncludesSo set wanted 0
includes_start set wanted k d h = absurd (omega arith)

neither : (x y : Bool) → (x && not y) ≡ false → x ≡ true → y ≡ true
neither true true e f = refl
neither true false e f = absurd (false≢true (sym e))
neither false y e f = absurd (false≢true f)

both : (x y : Bool) → (x && not y) ≡ true → (x ≡ true) × (y ≡ false)
both true true e = absurd (false≢true e)
both true false e = (refl, refl)
both false y e = absurd (false≢true e)

pub same_item : {X : Type 0} (xs : List X) (i : ℕ) (d e : X) → i < length xs → get_or xs i d ≡ get_or xs i e
same_item [] i d e h = absurd (omega arith)
same_item (x ∷ xs) zero d e h = refl
same_item (x ∷ xs) (suc i) d e h = same_item xs i d e (omega arith)

below_next : (k i : ℕ) → k < i + 1 → (k < i) ⊎ (k ≡ i)
below_next zero zero h = inr refl
below_next zero (suc i) h = inl (omega arith)
below_next (suc k) zero h = absurd (omega arith)
below_next (suc k) (suc i) h = elim (below_next k i (omega arith)) [ inl less ↦ inl (omega arith) | inr same ↦ inr (ap suc same) ]

module _ (set wanted : PropSet) where
  pub includes_next : (i : ℕ) (d : Prop) (r : Bool) → i < length all_props →
      r ≡ (has_prop wanted (get_or all_props i d) && not (has_prop set (get_or all_props i d))) → r ≡ false → IncludesSo set wanted i →
      IncludesSo set wanted (i + 1)
  includes_next i d r h e f so k e_ below wants = go (below_next k i below)
    where
      go : (k < i) ⊎ (k ≡ i) → HasProp set (get_or all_props k e_)
      go (inl less) = so k e_ less wants
      go (inr same) =
          let item : get_or all_props k e_ ≡ get_or all_props i d = ap (λ j. get_or all_props j e_) same ∙ same_item all_props i e_ d h in
          subst (HasProp set) (sym item) (neither _ _ (sym e ∙ f) (subst (HasProp wanted) item wants))

  pub includes_fails : (i : ℕ) (d : Prop) (r : Bool) → r ≡ (has_prop wanted (get_or all_props i d) && not (has_prop set (get_or all_props i d))) → r ≡ true →
      IsTrue false ↔ ((p : Prop) → HasProp wanted p → HasProp set p)
  includes_fails i d r e t =
      let two = both _ _ (sym e ∙ t) in
      (λ no_truth. absurd (false≢true no_truth), λ all. absurd (false≢true (sym two.1 ∙ all (get_or all_props i d) two.0)))

  at_number : (p : Prop) → get_or all_props (prop_number p) Comm ≡ p
  at_number Comm = refl
  at_number Assoc = refl
  at_number Idem = refl
  at_number Sel = refl
  at_number Refl = refl
  at_number Irrefl = refl
  at_number Sym = refl
  at_number Antisym = refl
  at_number Asym = refl
  at_number Trans = refl
  at_number Conn = refl

  number_below : (p : Prop) → prop_number p < 11
  number_below Comm = lit< tt
  number_below Assoc = lit< tt
  number_below Idem = lit< tt
  number_below Sel = lit< tt
  number_below Refl = lit< tt
  number_below Irrefl = lit< tt
  number_below Sym = lit< tt
  number_below Antisym = lit< tt
  number_below Asym = lit< tt
  number_below Trans = lit< tt
  number_below Conn = lit< tt

  pub includes_end : (i : ℕ) → 11 ≤ i → IncludesSo set wanted i → IsTrue true ↔ ((p : Prop) → HasProp wanted p → HasProp set p)
  includes_end i h so = (
    λ _ p wants. subst (HasProp set) (at_number p)
        (so (prop_number p) Comm (omega (arith, number_below p)) (subst (HasProp wanted) (sym (at_number p)) wants)),
    λ _. refl,
  )

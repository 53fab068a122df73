-- The properties of a declaration, written and assumed, are found exactly as the rules say.
use Rattle.std.proofs.Common.{◌≡◌, ◌⊎◌, inl, inr, ℕ, zero, suc, ◌+◌, Bool, true, false, cond, eqb, ◌||◌, List, [], ◌∷◌, Some, refl, sym, ◌∙◌, ap, subst, arith}
use Rattle.std.specs.Prelude.{slice_get, ◌==◌}
use Rattle.std.specs.List.{All, list_any}
use Rattle.std.proofs.lemmas.Bool.{false≢true}
use Rattle.std.proofs.lemmas.Bool.Decides.{Decides-eqb}
use Rattle.std.proofs.lemmas.List.Elements.{All-nil, All-cons, All-head, All-tail}
use Rattle.px_base.specs.PropSets.{prop_number, has_prop, HasProp, set_of}
use Rattle.px_base.specs.declared.prop.Prop.{Prop}
use Rattle.px_base.specs.declared.prop.Prop.TheVariants.{Comm, Assoc, Idem, Sel, Refl, Irrefl, Sym, Antisym, Asym, Trans, Conn}
use Rattle.px_base.specs.declared.head.Head.{Head}
use Rattle.px_base.specs.declared.head.Head.TheVariants.{FnVar}
use Rattle.px_base.specs.declared.raw.RawProp.{RawProp}
use Rattle.px_base.specs.declared.raw.RawFnType.{RawFnType}
use Rattle.px_terms.specs.declared.types.FnType.{FnType}
use Rattle.px_terms.specs.declared.program.Program.{Program}
use Rattle.px_terms.specs.TypedPrograms.{Fits}
use Rattle.px_types.specs.declared.ends.TypeKind.TheVariants.{PropertyShape}
use Rattle.px_types.specs.Written.{props_of, IsFnTy, AreFnTys}
use Rattle.px_types.specs.Written as written
use Rattle.px_types.specs.Faults.{Broken, breaks}
use Rattle.px_types.specs.Declarations.{BreaksProps, BreaksAssumed}
use Rattle.px_types.specs.NextOutcome.{prop_found, props_found, assumed_found}
use Rattle.px_types.proofs.Exact.{Exact, Either, first, later, exact_as, exact_needs, exact_then}
use Rattle.px_types.proofs.FitsExact.{decides_fits}

-- the property of a number
prop_at : ℕ → Prop
prop_at n = cond (eqb n 0) Comm (cond (eqb n 1) Assoc
    (cond (eqb n 2) Idem (cond (eqb n 3) Sel
    (cond (eqb n 4) Refl (cond (eqb n 5) Irrefl (cond (eqb n 6) Sym (cond (eqb n 7) Antisym (cond (eqb n 8) Asym (cond (eqb n 9) Trans Conn)))))))))

prop_at_number : (p : Prop) → prop_at (prop_number p) ≡ p
unfolding prop_at
prop_at_number Comm = refl
prop_at_number Assoc = refl
prop_at_number Idem = refl
prop_at_number Sel = refl
prop_at_number Refl = refl
prop_at_number Irrefl = refl
prop_at_number Sym = refl
prop_at_number Antisym = refl
prop_at_number Asym = refl
prop_at_number Trans = refl
prop_at_number Conn = refl

one_number : (p q : Prop) → prop_number p ≡ prop_number q → p ≡ q
one_number p q e = sym (prop_at_number p) ∙ ap prop_at e ∙ prop_at_number q

-- the property is one of these
abbrev is_one_of : List Prop → Prop → Bool
is_one_of props q = list_any (λ (p : Prop). prop_number p == prop_number q) props

has_is : (props : List Prop) (q : Prop) → has_prop (set_of props) q ≡ is_one_of props q
has_is props Comm = refl
has_is props Assoc = refl
has_is props Idem = refl
has_is props Sel = refl
has_is props Refl = refl
has_is props Irrefl = refl
has_is props Sym = refl
has_is props Antisym = refl
has_is props Asym = refl
has_is props Trans = refl
has_is props Conn = refl

or_of : (x y : Bool) → (x || y) ≡ true → (x ≡ true) ⊎ (y ≡ true)
or_of true y e = inl refl
or_of false y e = inr e

or_left : (x y : Bool) → x ≡ true → (x || y) ≡ true
or_left true y e = refl
or_left false y e = absurd (false≢true e)

or_right : (x y : Bool) → y ≡ true → (x || y) ≡ true
or_right true y e = refl
or_right false y e = e

-- what holds of the properties that are written
module _ (Q : Prop → Type 0) where
  abbrev pub AllHold : List RawProp → Type 0
  AllHold raws = All (λ (raw : RawProp). Q raw.prop) raws

  among_written : (raws : List RawProp) → AllHold raws → (p : Prop) → is_one_of (props_of raws) p ≡ true → Q p
  among_written [] all p e = absurd (false≢true e)
  among_written (raw ∷ raws) all p e = elim (or_of (prop_number raw.prop == prop_number p) _ e) [
    | inl here ↦ subst Q (one_number raw.prop p ((Decides-eqb (prop_number raw.prop) (prop_number p)).0 here))
        (All-head (λ (raw : RawProp). Q raw.prop) raw raws all)
    | inr there ↦ among_written raws (All-tail (λ (raw : RawProp). Q raw.prop) raw raws all) p there
  ]

  each_written : (raws : List RawProp) → ((p : Prop) → is_one_of (props_of raws) p ≡ true → Q p) → AllHold raws
  each_written [] each = All-nil (λ (raw : RawProp). Q raw.prop)
  each_written (raw ∷ raws) each = All-cons (λ (raw : RawProp). Q raw.prop) raw raws
      (each raw.prop (or_left (prop_number raw.prop == prop_number raw.prop) _ ((Decides-eqb (prop_number raw.prop) (prop_number raw.prop)).1 refl)))
      (each_written raws (λ p e. each p (or_right (prop_number raw.prop == prop_number p) _ e)))

  pub written_hold : (raws : List RawProp) → AllHold raws → (p : Prop) → HasProp (set_of (props_of raws)) p → Q p
  written_hold raws all p has = among_written raws all p (sym (has_is (props_of raws) p) ∙ has)

  pub hold_written : (raws : List RawProp) → ((p : Prop) → HasProp (set_of (props_of raws)) p → Q p) → AllHold raws
  hold_written raws each = each_written raws (λ p e. each p (has_is (props_of raws) p ∙ e))

module _ (P : Program) (funs : List FnType) where
  exact_prop : (h : Head) (raw : RawProp) →
      Exact (prop_found P funs h raw) (λ _. Fits P funs h raw.prop) (λ b. (Fits P funs h raw.prop → ⊥) × (b ≡ breaks PropertyShape raw.at))
  unfolding prop_found
  exact_prop h raw = exact_needs _ PropertyShape raw.at (decides_fits P funs h raw.prop)

  -- each property fits
  abbrev pub AllFits : Head → List RawProp → Type 0
  AllFits h raws = All (λ (raw : RawProp). Fits P funs h raw.prop) raws

  pub exact_props : (h : Head) (raws : List RawProp) → Exact (props_found P funs h raws) (λ _. AllFits h raws) (BreaksProps P funs h raws)
  unfolding props_found
  exact_props h [] = record { says = All-nil (λ (raw : RawProp). Fits P funs h raw.prop); ok = λ x all. refl; err = λ b br. elim br [ ] }
  exact_props h (raw ∷ raws) = exact_as (exact_then (exact_prop h raw) (λ _ fit. exact_props h raws))
      (λ x both. All-cons (λ (raw : RawProp). Fits P funs h raw.prop) raw raws both.is both.after)
      (λ x all. record {
        x = tt;
        is = All-head (λ (raw : RawProp). Fits P funs h raw.prop) raw raws all;
        after = All-tail (λ (raw : RawProp). Fits P funs h raw.prop) raw raws all;
      })
      (λ b br. elim br [ first wrong ↦ BreaksProps.here wrong.0 wrong.1 | later _ fit rest ↦ BreaksProps.later fit rest ])
      (λ b br. props_from br)
    where
      props_from : {b : Broken} → BreaksProps P funs h (raw ∷ raws) b →
          Either {S = Unit {0}} (λ _. Fits P funs h raw.prop) (λ b. (Fits P funs h raw.prop → ⊥) × (b ≡ breaks PropertyShape raw.at))
          (λ _. BreaksProps P funs h raws) b
      props_from (BreaksProps.here wrong e) = first (wrong, e)
      props_from (BreaksProps.later fit rest) = later tt fit rest

  -- the properties that are assumed of function variables, from number i on, fit
  abbrev pub AllAssumed : ℕ → List RawFnType → Type 0
  AllAssumed i [] = Unit {0}
  AllAssumed i (F ∷ rest) = AllFits (FnVar i) F.props × AllAssumed (i + 1) rest

  pub exact_assumed : (i : ℕ) (raws : List RawFnType) → Exact (assumed_found P funs i raws) (λ _. AllAssumed i raws) (BreaksAssumed P funs i raws)
  unfolding assumed_found
  exact_assumed i [] = record { says = tt; ok = λ x all. refl; err = λ b br. elim br [ ] }
  exact_assumed i (F ∷ rest) = exact_as (exact_then (exact_props (FnVar i) F.props) (λ _ fit. exact_assumed (i + 1) rest))
      (λ x both. (both.is, both.after))
      (λ x all. record { x = tt; is = all.0; after = all.1 })
      (λ b br. elim br [ first wrong ↦ BreaksAssumed.here wrong | later _ fit others ↦ BreaksAssumed.later fit others ])
      (λ b br. assumed_break br)
    where
      assumed_break : {b : Broken} → BreaksAssumed P funs i (F ∷ rest) b →
          Either {S = Unit {0}} (λ _. AllFits (FnVar i) F.props) (BreaksProps P funs (FnVar i) F.props) (λ _. BreaksAssumed P funs (i + 1) rest) b
      assumed_break (BreaksAssumed.here wrong) = first wrong
      assumed_break (BreaksAssumed.later fit others) = later tt fit others

  -- what is assumed of the function variables from number k on, by their types
  abbrev pub AssumedOf : ℕ → List FnType → Type 0
  AssumedOf k types = (i j : ℕ) (F : FnType) (p : Prop) → j ≡ k + i → slice_get types i ≡ Some F → HasProp F.props p → Fits P funs (FnVar j) p

  one_type : {F G : FnType} → Some F ≡ Some G → F ≡ G
  one_type e = cc

  pub assumed_to : (k : ℕ) {raws : List RawFnType} {types : List FnType} → AreFnTys raws types → AllAssumed k raws → AssumedOf k types
  assumed_to k written.none all i j F p at stands has = absurd cc
  assumed_to k (written.more {raw = raw} {F = G} is are) all zero j F p at stands has =
      let same : G ≡ F = one_type stands in
      let number : j ≡ k = omega arith in
      let set : HasProp (set_of (props_of raw.props)) p = subst (λ (s : _). HasProp s p) is.props (subst (λ (f : FnType). HasProp f.props p) (sym same) has) in
      subst (λ (n : ℕ). Fits P funs (FnVar n) p) (sym number) (written_hold (λ (q : Prop). Fits P funs (FnVar k) q) raw.props all.0 p set)
  assumed_to k (written.more is are) all (suc i) j F p at stands has = assumed_to (k + 1) are all.1 i j F p (omega arith) stands has

  pub assumed_from : (k : ℕ) {raws : List RawFnType} {types : List FnType} → AreFnTys raws types → AssumedOf k types → AllAssumed k raws
  assumed_from k written.none each = tt
  assumed_from k (written.more {raw = raw} {F = G} is are) each = (
    hold_written (λ (q : Prop). Fits P funs (FnVar k) q) raw.props
        (λ p has. each 0 k G p (omega arith) refl (subst (λ (s : _). HasProp s p) (sym is.props) has)),
    assumed_from (k + 1) are (λ i j F p at stands has. each (suc i) j F p (omega arith) stands has),
  )

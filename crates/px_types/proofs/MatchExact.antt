-- Matches are found exactly as the rules say.
use Rattle.std.proofs.Common.{◌≡◌, ◌⊎◌, inl, inr, ℕ, zero, suc, ◌+◌, ◌<◌, List, [], ◌∷◌, ◌++◌, length, map, reverse, Option, Some, None, refl, sym, ◌∙◌, ap, subst, arith}
use Rattle.std.specs.Prelude.{slice_get, slice_set, Contains}
use Rattle.std.specs.List.{All}
use Rattle.std.specs.Option.{option_map}
use Rattle.std.proofs.lemmas.List.{length-map}
use Rattle.px_base.specs.Distinct.{AreDistinct}
use Rattle.px_base.specs.Distinct as distinct
use Rattle.px_base.specs.declared.raw.RawKind.{out-RawKind}
use Rattle.px_base.specs.declared.raw.RawKind.TheOpen.{RawKind-F}
use Rattle.px_base.specs.declared.raw.RawTerm.{RawTerm}
use Rattle.px_base.specs.declared.raw.RawArm.{RawArm}
use Rattle.px_terms.specs.declared.types.Ty.{Ty, out-Ty, roll-Ty, roll-out-Ty}
use Rattle.px_terms.specs.declared.types.Ty.TheVariants as type
use Rattle.px_terms.specs.declared.types.Ty.TheOpen.{Ty-F}
use Rattle.px_terms.specs.declared.term.Term.{Term, out-Term}
use Rattle.px_terms.specs.declared.term.Term.TheVariants as term
use Rattle.px_terms.specs.declared.term.Term.TheOpen.{Term-F}
use Rattle.px_terms.specs.declared.program.ConDef.{ConDef}
use Rattle.px_terms.specs.declared.program.DataDef.{DataDef}
use Rattle.px_terms.specs.declared.program.Program.{Program}
use Rattle.px_terms.specs.Programs.{constructor_at}
use Rattle.px_terms.specs.Typing.{IsMet, HasTypeLayer, HaveTypesInArms}
use Rattle.px_terms.specs.Typing as typing
use Rattle.px_types.specs.declared.ends.TypeKind.TheVariants.{Mismatch, ArmMissing}
use Rattle.px_types.specs.declared.typed.Typed.{Typed}
use Rattle.px_types.specs.declared.typed.Slots.{Slots}
use Rattle.px_types.specs.Written.{cons_of, HasPattern, IsTermLayer, AreArms}
use Rattle.px_types.specs.Written as written
use Rattle.px_types.specs.Faults.{Broken, breaks, Env, IsTyped, IsDatatype, Shown, Agrees, IsPattern, Breaks, BreaksArms}
use Rattle.px_types.specs.Faults as faults
use Rattle.px_types.specs.Outcomes.{onward, there, along}
use Rattle.px_types.specs.Laws.{IsDeclaring}
use Rattle.px_types.specs.Outcome.{part_of, term_found, Chosen, chosen_of, arm_found, all_filled, no_arms, match_found}
use Rattle.px_types.proofs.Exact.{Exact, Both, Either, first, later, exact_as, exact_at, exact_ok, exact_there, exact_then, Every, Along, AlongBreaks, exact_along}
use Rattle.px_types.proofs.Exact as exact
use Rattle.px_types.proofs.TermShapes.{arm_part, part_at}
use Rattle.px_types.proofs.TermsExact.{TermIsExact}
use Rattle.px_types.proofs.SlotLemmas.{one_some, some_none, set_same, set_other, set_length, get_within, same_number, open_count, open_set, open_replicate, replicate_get, replicate_open, replicate_length, filled_is, filled_all, one_open, open_one, get_at, none_open, none_open_left, get_map, map_get, same_at, contains_here, contains_later, contains_cases}
use Rattle.px_types.proofs.ArmsExact.{PatternIs, has_pattern, pattern_there, fields_of, filled, ArmFound, ArmBreaks, miscounted, elsewhere, again, variable, body, unlike, exact_arm}

-- The arms of a match on this datatype, one after the other.
module _ (E : Env) (bound : List Ty) (on : Chosen) where
  -- the slots after arms, and the first broken rule among them
  abbrev ArmsFound : Slots → List RawArm → Slots → Type 0
  ArmsFound = Along (ArmFound E bound on)

  abbrev ArmsBreak : Slots → List RawArm → Broken → Type 0
  ArmsBreak = AlongBreaks (ArmFound E bound on) (ArmBreaks E bound on)

  arms_of_raws : (s : Slots) (arms : List RawArm) → along (arm_found E bound on) s (map (arm_part E) arms) ≡ along (λ (s : Slots) (arm : RawArm). arm_found E bound on s (arm_part E arm)) s arms
  unfolding along
  arms_of_raws s [] = refl
  arms_of_raws s (arm ∷ arms) = λ i. onward (arm_found E bound on s (arm_part E arm)) (λ (t : Slots). arms_of_raws t arms i)

  every_arm : (arms : List RawArm) → Every (λ (arm : RawArm). TermIsExact E arm.body) arms → Every (λ (arm : RawArm). (s : Slots) → Exact (arm_found E bound on s (arm_part E arm)) (ArmFound E bound on s arm) (ArmBreaks E bound on s arm)) arms
  every_arm [] all = tt
  every_arm (arm ∷ arms) (one, all) = (exact_arm E bound on arm one, every_arm arms all)

  pub exact_arms : (s : Slots) (arms : List RawArm) → Every (λ (arm : RawArm). TermIsExact E arm.body) arms → Exact (along (arm_found E bound on) s (map (arm_part E) arms)) (ArmsFound s arms) (ArmsBreak s arms)
  exact_arms s arms all = exact_at (arms_of_raws s arms) (exact_along (λ (s : Slots) (arm : RawArm). arm_found E bound on s (arm_part E arm)) (ArmFound E bound on) (ArmBreaks E bound on) arms (every_arm arms all) s)

  -- a slot after an arm is the arm's, or as it was
  slot_cases : {s u : Slots} {arm : RawArm} (f : ArmFound E bound on s arm u) (k : ℕ) (slot : Option Term) → slice_get u.bodies k ≡ Some slot → ((k ≡ arm.con) × (slot ≡ Some f.t)) ⊎ ((k ≡ arm.con → ⊥) × (slice_get s.bodies k ≡ Some slot))
  slot_cases {s} {u} {arm} f k slot e =
      let placed : slice_get (slice_set s.bodies arm.con (Some f.t)) k ≡ Some slot = ap (λ (v : Slots). slice_get v.bodies k) (sym f.same) ∙ e in
      elim (same_number k arm.con) [
        | inl same ↦ inl (same, one_some (sym placed ∙ ap (slice_get (slice_set s.bodies arm.con (Some f.t))) same ∙ set_same s.bodies arm.con (Some f.t) (get_within s.bodies arm.con None f.opens)))
        | inr other ↦ inr (other, sym (set_other s.bodies arm.con k (Some f.t) other) ∙ placed)
      ]

  slot_here : {s u : Slots} {arm : RawArm} (f : ArmFound E bound on s arm u) → slice_get u.bodies arm.con ≡ Some (Some f.t)
  slot_here {s} {u} {arm} f = ap (λ (v : Slots). slice_get v.bodies arm.con) f.same ∙ set_same s.bodies arm.con (Some f.t) (get_within s.bodies arm.con None f.opens)

  slot_other : {s u : Slots} {arm : RawArm} (f : ArmFound E bound on s arm u) (k : ℕ) → (k ≡ arm.con → ⊥) → slice_get u.bodies k ≡ slice_get s.bodies k
  slot_other {s} {u} {arm} f k other = ap (λ (v : Slots). slice_get v.bodies k) f.same ∙ set_other s.bodies arm.con k (Some f.t) other

  slot_stays : {s u : Slots} {arm : RawArm} (f : ArmFound E bound on s arm u) (k : ℕ) (t : Term) → slice_get s.bodies k ≡ Some (Some t) → slice_get u.bodies k ≡ Some (Some t)
  slot_stays {s} {u} {arm} f k t e = slot_other f k (λ same. some_none t (one_some (sym e ∙ ap (slice_get s.bodies) same ∙ f.opens))) ∙ e

  slots_length : {s u : Slots} {arm : RawArm} → ArmFound E bound on s arm u → length u.bodies ≡ length s.bodies
  slots_length {s} {u} {arm} f = ap (λ (v : Slots). length v.bodies) f.same ∙ set_length s.bodies arm.con (Some f.t)

  slots_open : {s u : Slots} {arm : RawArm} → ArmFound E bound on s arm u → open_count s.bodies ≡ suc (open_count u.bodies)
  slots_open {s} {u} {arm} f = open_set s.bodies arm.con f.t f.opens ∙ ap (λ (v : Slots). suc (open_count v.bodies)) (sym f.same)

  -- Over all arms.
  arms_stay : {s u : Slots} {arms : List RawArm} → ArmsFound s arms u → (k : ℕ) (t : Term) → slice_get s.bodies k ≡ Some (Some t) → slice_get u.bodies k ≡ Some (Some t)
  arms_stay exact.none k t e = e
  arms_stay (exact.more f rest) k t e = arms_stay rest k t (slot_stays f k t e)

  arms_length : {s u : Slots} {arms : List RawArm} → ArmsFound s arms u → length u.bodies ≡ length s.bodies
  arms_length exact.none = refl
  arms_length (exact.more f rest) = arms_length rest ∙ slots_length f

  arms_open : {s u : Slots} {arms : List RawArm} → ArmsFound s arms u → open_count s.bodies ≡ length arms + open_count u.bodies
  arms_open exact.none = omega arith
  arms_open (exact.more f rest) = omega (arith, slots_open f, arms_open rest)

  arms_are : {s u : Slots} {arms : List RawArm} → ArmsFound s arms u → (bodies : List Term) → ((k : ℕ) (t : Term) → slice_get u.bodies k ≡ Some (Some t) → slice_get bodies k ≡ Some t) → AreArms E.program on.number bodies arms
  arms_are exact.none bodies final = written.no_arm
  arms_are (exact.more {x = arm} f rest) bodies final = written.arm f.datatype (has_pattern E arm f.c f.pattern) (final arm.con f.t (arms_stay rest arm.con f.t (slot_here f))) f.typed.is (arms_are rest bodies final)

  not_again : {s u : Slots} {arms : List RawArm} → ArmsFound s arms u → (k : ℕ) (t : Term) → slice_get s.bodies k ≡ Some (Some t) → Contains (cons_of arms) k → ⊥
  not_again exact.none k t e h = absurd (omega (arith, h.1))
  not_again {s} (exact.more {x = arm} {xs = arms} f rest) k t e h = elim (contains_cases arm.con k (cons_of arms) h) [
    | inl same ↦ some_none t (one_some (sym e ∙ ap (slice_get s.bodies) (sym same) ∙ f.opens))
    | inr later_one ↦ not_again rest k t (slot_stays f k t e) later_one
  ]

  arms_distinct : {s u : Slots} {arms : List RawArm} → ArmsFound s arms u → AreDistinct (cons_of arms)
  arms_distinct exact.none = distinct.none
  arms_distinct (exact.more {x = arm} f rest) = distinct.more (λ h. not_again rest arm.con f.t (slot_here f) h) (arms_distinct rest)

  -- A body that is typed under the constructor of this number.
  record TypedAt (cs : List ConDef) (k : ℕ) (t : Term) (T : Ty) : Type 0 where
    c : ConDef
    stands : slice_get cs k ≡ Some c
    met : All (IsMet E.place) (fields_of E bound on c)
    has : HasTypeLayer E.program E.place E.context (reverse (fields_of E bound on c) ++ bound) (out-Term t) T

  -- the constructor of an arm is one of the datatype's
  con_stands : slice_get E.program.datatypes on.number ≡ Some on.datatype → (arm : RawArm) (c : ConDef) → PatternIs E arm c → arm.datatype ≡ on.number → slice_get on.datatype.cons arm.con ≡ Some c
  con_stands declared arm c pattern datatype = rw (datatype, declared) at pattern.stands

  -- Each body so far is typed.
  record SlotTyped (s : Slots) (k : ℕ) (t : Term) : Type 0 where
    T : Ty
    same : s.ty ≡ Some T
    typed : TypedAt on.datatype.cons k t T

  slots_typed : slice_get E.program.datatypes on.number ≡ Some on.datatype → {s u : Slots} {arm : RawArm} → ArmFound E bound on s arm u → ((k : ℕ) (t : Term) → slice_get s.bodies k ≡ Some (Some t) → SlotTyped s k t) → (k : ℕ) (t : Term) → slice_get u.bodies k ≡ Some (Some t) → SlotTyped u k t
  slots_typed declared {s} {u} {arm} f before k t e = elim (slot_cases f k (Some t) e) [
    | inl here ↦ record {
      T = f.T;
      same = ap (λ (v : Slots). v.ty) f.same;
      typed = record { c = f.c; stands = ap (slice_get on.datatype.cons) here.0 ∙ con_stands declared arm f.c f.pattern f.datatype; met = f.met; has = rw (one_some here.1) f.typed.has };
    }
    | inr there ↦
        let old = before k t there.1 in
        let agree : f.T ≡ old.T = rw old.same at f.agree in
        record { T = f.T; same = ap (λ (v : Slots). v.ty) f.same; typed = rw agree old.typed }
  ]

  arms_typed : slice_get E.program.datatypes on.number ≡ Some on.datatype → {s u : Slots} {arms : List RawArm} → ArmsFound s arms u → ((k : ℕ) (t : Term) → slice_get s.bodies k ≡ Some (Some t) → SlotTyped s k t) → (k : ℕ) (t : Term) → slice_get u.bodies k ≡ Some (Some t) → SlotTyped u k t
  arms_typed declared exact.none before = before
  arms_typed declared (exact.more f rest) before = arms_typed declared rest (slots_typed declared f before)

  have_arms : (cs : List ConDef) (bodies : List Term) (T : Ty) → length cs ≡ length bodies → ((k : ℕ) (t : Term) → slice_get bodies k ≡ Some t → TypedAt cs k t T) → HaveTypesInArms E.program E.place E.context bound on.types cs bodies T
  have_arms [] [] T same all = typing.no_arm
  have_arms [] (t ∷ ts) T same all = absurd (omega arith)
  have_arms (c ∷ cs) [] T same all = absurd (omega arith)
  have_arms (c ∷ cs) (t ∷ ts) T same all =
      let here = all 0 t refl in
      let con : here.c ≡ c = one_some (sym here.stands) in
      typing.arm (rw con at here.met) (rw con at here.has) (have_arms cs ts T (omega arith) (λ k u e. let there = all (suc k) u e in record { c = there.c; stands = there.stands; met = there.met; has = there.has }))

  typed_at : {cs : List ConDef} {bodies : List Term} {T : Ty} → HaveTypesInArms E.program E.place E.context bound on.types cs bodies T → (k : ℕ) (t : Term) → slice_get bodies k ≡ Some t → TypedAt cs k t T
  typed_at typing.no_arm k t e = absurd (some_none t (sym e))
  typed_at (typing.arm {c = c} met has rest) zero t e = record { c = c; stands = refl; met = met; has = rw (sym (one_some e)) has }
  typed_at (typing.arm met has rest) (suc k) t e = let there = typed_at rest k t e in record { c = there.c; stands = there.stands; met = there.met; has = there.has }

  arms_lengths : {cs : List ConDef} {bodies : List Term} {T : Ty} → HaveTypesInArms E.program E.place E.context bound on.types cs bodies T → length cs ≡ length bodies
  arms_lengths typing.no_arm = refl
  arms_lengths (typing.arm met has rest) = ap suc (arms_lengths rest)

  -- What arms that are typed fill.
  record Filling (bodies : List Term) (T : Ty) (s : Slots) (arms : List RawArm) : Type 0 where
    u : Slots
    found : ArmsFound s arms u
    agree : (k : ℕ) (t : Term) → slice_get u.bodies k ≡ Some (Some t) → slice_get bodies k ≡ Some t
    kept : s.ty ≡ Some T → u.ty ≡ Some T
    ty : 0 < length arms → u.ty ≡ Some T

  -- the type so far is none, or this one
  abbrev IsTyOf : Ty → Option Ty → Type 0
  IsTyOf T o = (o ≡ None) ⊎ (o ≡ Some T)

  agrees_with : (T : Ty) (o : Option Ty) → IsTyOf T o → Agrees o T
  agrees_with T None h = tt
  agrees_with T (Some U) h = elim h [ inl e ↦ absurd (some_none U e) | inr e ↦ sym (one_some e) ]

  module _ (declared : slice_get E.program.datatypes on.number ≡ Some on.datatype) (bodies : List Term) (T : Ty) (have : HaveTypesInArms E.program E.place E.context bound on.types on.datatype.cons bodies T) where
    fill_one : (s : Slots) (arm : RawArm) (t : Term) → arm.datatype ≡ on.number → HasPattern E.program arm → slice_get bodies arm.con ≡ Some t → IsTermLayer E.program (out-RawKind arm.body.kind) t → slice_get s.bodies arm.con ≡ Some None → IsTyOf T s.ty → ArmFound E bound on s arm (filled E bound on s arm.con t T)
    fill_one s arm t datatype has stands is opens ty =
        let there = pattern_there E arm has in
        let body_at = typed_at have arm.con t stands in
        let same : body_at.c ≡ there.0 = one_some (sym body_at.stands ∙ con_stands declared arm there.0 there.1 datatype) in
        record {
          c = there.0;
          t = t;
          T = T;
          pattern = there.1;
          datatype = datatype;
          opens = opens;
          met = rw same at body_at.met;
          typed = record { is = is; has = rw same at body_at.has };
          agree = agrees_with T s.ty ty;
          same = refl;
        }

    fill : (arms : List RawArm) (s : Slots) → AreArms E.program on.number bodies arms → AreDistinct (cons_of arms) → ((k : ℕ) → Contains (cons_of arms) k → slice_get s.bodies k ≡ Some None) → ((k : ℕ) (t : Term) → slice_get s.bodies k ≡ Some (Some t) → slice_get bodies k ≡ Some t) → IsTyOf T s.ty → Filling bodies T s arms
    unfolding fill_one
    fill [] s are distinct_cons opens agree ty = record { u = s; found = exact.none; agree = agree; kept = λ e. e; ty = λ some. absurd (omega arith) }
    fill (arm ∷ arms) s (written.arm {body = t} datatype has stands is are) (distinct.more once others) opens agree ty =
        let here : slice_get s.bodies arm.con ≡ Some None = opens arm.con (contains_here arm.con (cons_of arms)) in
        let one = fill_one s arm t datatype has stands is here ty in
        let rest = fill arms (filled E bound on s arm.con t T) are others (λ k h. slot_other one k (λ e. once (subst (Contains (cons_of arms)) e h)) ∙ opens k (contains_later arm.con k (cons_of arms) h)) (λ k u e. elim (slot_cases one k (Some u) e) [ inl same ↦ ap (slice_get bodies) same.0 ∙ stands ∙ sym (ap Some (one_some same.1)) | inr other ↦ agree k u other.1 ]) (inr refl) in
        record { u = rest.u; found = exact.more one rest.found; agree = rest.agree; kept = λ e. rest.kept refl; ty = λ some. rest.kept refl }

-- A scrutinee's type.
record ChosenIs (P : Program) (T : Ty) (on : Chosen) : Type 0 where
  same : T ≡ type.Con on.number on.types
  stands : slice_get P.datatypes on.number ≡ Some on.datatype

con_of_layer : (T : Ty) (d : ℕ) (types : List Ty) → out-Ty T ≡ Ty-F.Con d types → T ≡ type.Con d types
con_of_layer T d types e = sym (roll-out-Ty T) ∙ ap roll-Ty e ∙ type.rolls-Con d types

chosen_some : (P : Program) (T : Ty) (on : Chosen) → chosen_of P (out-Ty T) ≡ Some on → ChosenIs P T on
chosen_some P T on e = go (out-Ty T) refl e
  where
    chosen_at : (d : ℕ) (types : List Ty) → out-Ty T ≡ Ty-F.Con d types → (o : Option DataDef) → slice_get P.datatypes d ≡ o → ◌≡◌ {A = Option Chosen} (option_map (λ (D : DataDef). record { number = d; types = types; datatype = D }) o) (Some on) → ChosenIs P T on
    chosen_at d types layer None stands e = absurd (some_none on (sym e))
    chosen_at d types layer (Some D) stands e =
        let one : ◌≡◌ {A = Chosen} (record { number = d; types = types; datatype = D }) on = one_some e in
        rw (← one) (record { same = con_of_layer T d types layer; stands = stands })

    go : (layer : Ty-F Ty) → out-Ty T ≡ layer → chosen_of P layer ≡ Some on → ChosenIs P T on
    go Ty-F.Word layer e = absurd (some_none on (sym e))
    go (Ty-F.Var n) layer e = absurd (some_none on (sym e))
    go (Ty-F.Con d types) layer e = chosen_at d types layer (slice_get P.datatypes d) refl e

chosen_made : (P : Program) (T : Ty) (on : Chosen) → ChosenIs P T on → chosen_of P (out-Ty T) ≡ Some on
chosen_made P T on is = rw (is.same, type.outs-Con on.number on.types, is.stands) refl

not_datatype : (P : Program) (T : Ty) → chosen_of P (out-Ty T) ≡ None → ¬ IsDatatype P T
not_datatype P T e is =
    let on : Chosen = record { number = is.number; types = is.types; datatype = is.datatype } in
    some_none on (sym (chosen_made P T on (record { same = is.same; stands = is.stands })) ∙ e)

datatype_not : (P : Program) (T : Ty) → ¬ IsDatatype P T → chosen_of P (out-Ty T) ≡ None
datatype_not P T barred = go (chosen_of P (out-Ty T)) refl
  where
    go : (o : Option Chosen) → chosen_of P (out-Ty T) ≡ o → chosen_of P (out-Ty T) ≡ None
    go None e = e
    go (Some on) e = let is = chosen_some P T on e in absurd (barred (record { number = on.number; types = on.types; datatype = on.datatype; stands = is.stands; same = is.same }))

contains_or : (ks : List ℕ) (k : ℕ) → Contains ks k ⊎ (Contains ks k → ⊥)
contains_or [] k = inr (λ h. absurd (omega (arith, h.1)))
contains_or (m ∷ ks) k = elim (same_number m k) [
  | inl same ↦ inl (subst (Contains (m ∷ ks)) same (contains_here m ks))
  | inr other ↦ elim (contains_or ks k) [
    | inl there ↦ inl (contains_later m k ks there)
    | inr absent ↦ inr (λ h. elim (contains_cases m k ks h) [ inl same ↦ other same | inr there ↦ absent there ])
  ]
]

-- The first broken rule among arms, by what they have shown.
module _ (E : Env) (bound : List Ty) (on : Chosen) (at : ℕ) (declared : slice_get E.program.datatypes on.number ≡ Some on.datatype) where
  -- What is shown are these slots.
  record Shows (shown : Shown) (s : Slots) : Type 0 where
    ty : shown.T ≡ s.ty
    closed : (k : ℕ) → Contains shown.cons k → slice_get s.bodies k ≡ Some None → ⊥
    opens : (k : ℕ) → k < length s.bodies → (Contains shown.cons k → ⊥) → slice_get s.bodies k ≡ Some None
    same : length s.bodies ≡ length on.datatype.cons

  -- what is shown after an arm
  abbrev shown_after : Shown → RawArm → Ty → Shown
  shown_after shown arm T = record { cons = arm.con ∷ shown.cons; T = Some T }

  shows_start : Shows (record { cons = []; T = None }) (no_arms on.datatype)
  shows_start = record {
    ty = refl;
    closed = λ k h e. absurd (omega (arith, h.1));
    opens = λ k below absent. replicate_get (length on.datatype.cons) k (rw (replicate_length (length on.datatype.cons)) at below);
    same = replicate_length (length on.datatype.cons);
  }

  shows_next : {shown : Shown} {s u : Slots} {arm : RawArm} (f : ArmFound E bound on s arm u) → Shows shown s → Shows (shown_after shown arm f.T) u
  shows_next {shown} {s} {u} {arm} f shows = record {
    ty = sym (ap (λ (v : Slots). v.ty) f.same);
    closed = λ k h e. elim (slot_cases E bound on f k None e) [
      | inl here ↦ absurd (some_none f.t (sym here.1))
      | inr there ↦ elim (contains_cases arm.con k shown.cons h) [ inl same ↦ there.0 (sym same) | inr before ↦ shows.closed k before there.1 ]
    ];
    opens = λ k below absent. slot_other E bound on f k (λ same. absent (subst (Contains (arm.con ∷ shown.cons)) (sym same) (contains_here arm.con shown.cons))) ∙ shows.opens k (rw (slots_length E bound on f) at below) (λ h. absent (contains_later arm.con k shown.cons h));
    same = slots_length E bound on f ∙ shows.same;
  }

  pattern_is : (shown : Shown) (s : Slots) (arm : RawArm) (c : ConDef) → Shows shown s → PatternIs E arm c → arm.datatype ≡ on.number → slice_get s.bodies arm.con ≡ Some None → IsPattern E on.number on.types shown arm (fields_of E bound on c)
  pattern_is shown s arm c shows pattern datatype opens = record {
    con = c;
    count = has_pattern E arm c pattern;
    datatype = datatype;
    stands = rw datatype at pattern.stands;
    once = λ h. shows.closed arm.con h opens;
    are_fields = refl;
  }

  agree_to : {shown : Shown} {s : Slots} (T : Ty) → Shows shown s → Agrees s.ty T → Agrees shown.T T
  agree_to T shows agree = subst (λ (o : Option Ty). Agrees o T) (sym shows.ty) agree

  agree_from : {shown : Shown} {s : Slots} (T : Ty) → Shows shown s → Agrees shown.T T → Agrees s.ty T
  agree_from T shows agree = subst (λ (o : Option Ty). Agrees o T) shows.ty agree

  contained : {shown : Shown} {s : Slots} (arm : RawArm) (c : ConDef) → Shows shown s → PatternIs E arm c → arm.datatype ≡ on.number → (slice_get s.bodies arm.con ≡ Some None → ⊥) → Contains shown.cons arm.con
  contained {shown} arm c shows pattern datatype closed = elim (contains_or shown.cons arm.con) [
    | inl there ↦ there
    | inr absent ↦ absurd (closed (shows.opens arm.con (rw shows.same (get_within on.datatype.cons arm.con c (con_stands E bound on declared arm c pattern datatype))) absent))
  ]

  later_shown : {shown : Shown} {s u : Slots} {arm : RawArm} {arms : List RawArm} {b : Broken} (f : ArmFound E bound on s arm u) → Shows shown s → BreaksArms E bound at on.number on.types (shown_after shown arm f.T) arms b → BreaksArms E bound at on.number on.types shown (arm ∷ arms) b
  later_shown {shown} {s} {u} {arm} f shows br = faults.later_arm (pattern_is shown s arm f.c shows f.pattern f.datatype f.opens) f.met f.typed (agree_to f.T shows f.agree) br

  breaks_to : {s : Slots} {arms : List RawArm} {b : Broken} → ArmsBreak E bound on s arms b → (shown : Shown) → Shows shown s → BreaksArms E bound at on.number on.types shown arms b
  breaks_to {s} (exact.here {x = arm} br) shown shows = elim br [
    | miscounted wrong e ↦ faults.pattern_count wrong e
    | elsewhere {c = c} pattern other e ↦ faults.other_datatype (has_pattern E arm c pattern) other e
    | again {c = c} pattern datatype closed e ↦ faults.repeated (has_pattern E arm c pattern) datatype (contained arm c shows pattern datatype closed) e
    | variable {c = c} pattern datatype opens br ↦ faults.in_variables (pattern_is shown s arm c shows pattern datatype opens) br
    | body {c = c} pattern datatype opens met br ↦ faults.in_arm (pattern_is shown s arm c shows pattern datatype opens) met br
    | unlike {c = c} {T = T} pattern datatype opens met typed other e ↦ faults.disagrees (pattern_is shown s arm c shows pattern datatype opens) met typed (λ agree. other (agree_from T shows agree)) e
  ]
  breaks_to (exact.behind {x = arm} f br) shown shows = later_shown f shows (breaks_to br (shown_after shown arm f.T) (shows_next f shows))

  missing_to : {s u : Slots} {arms : List RawArm} {b : Broken} → ArmsFound E bound on s arms u → (shown : Shown) → Shows shown s → all_filled u.bodies ≡ None → b ≡ breaks ArmMissing at → BreaksArms E bound at on.number on.types shown arms b
  missing_to {u = u} exact.none shown shows e is =
      let one = one_open u.bodies e in
      faults.missing declared (rw shows.same at (get_within u.bodies one.0 None one.1)) (λ h. shows.closed one.0 h one.1) is
  missing_to (exact.more {x = arm} f rest) shown shows e is = later_shown f shows (missing_to rest (shown_after shown arm f.T) (shows_next f shows) e is)

  -- The first broken rule of arms and of their end.
  data MatchBreaks (s : Slots) (arms : List RawArm) (b : Broken) : Type 0 where
    among : ArmsBreak E bound on s arms b → MatchBreaks s arms b
    lacking_one : (u : Slots) → ArmsFound E bound on s arms u → all_filled u.bodies ≡ None → b ≡ breaks ArmMissing at → MatchBreaks s arms b

  behind_one : {s u : Slots} {arm : RawArm} {arms : List RawArm} {b : Broken} → ArmFound E bound on s arm u → MatchBreaks u arms b → MatchBreaks s (arm ∷ arms) b
  behind_one f (among br) = among (exact.behind f br)
  behind_one f (lacking_one u rest e is) = lacking_one u (exact.more f rest) e is

  -- A pattern that is right fits the slots.
  record Fitting (s : Slots) (arm : RawArm) (c : ConDef) : Type 0 where
    fits : PatternIs E arm c
    opens : slice_get s.bodies arm.con ≡ Some None

  fitting : {shown : Shown} {s : Slots} {arm : RawArm} {fields : List Ty} → Shows shown s → (p : IsPattern E on.number on.types shown arm fields) → Fitting s arm p.con
  fitting {arm = arm} shows p =
      let stands : constructor_at E.program arm.datatype arm.con ≡ Some p.con = rw p.datatype p.stands in
      let pattern : PatternIs E arm p.con = record { stands = stands; count = rw stands at p.count } in
      record {
        fits = pattern;
        opens = shows.opens arm.con (rw shows.same (get_within on.datatype.cons arm.con p.con (con_stands E bound on declared arm p.con pattern p.datatype))) p.once;
      }

  breaks_from : {shown : Shown} {arms : List RawArm} {b : Broken} → BreaksArms E bound at on.number on.types shown arms b → (s : Slots) → Shows shown s → MatchBreaks s arms b
  breaks_from (faults.pattern_count wrong e) s shows = among (exact.here (miscounted wrong e))
  breaks_from (faults.other_datatype {arm = arm} has other e) s shows = among (exact.here (elsewhere (pattern_there E arm has).1 other e))
  breaks_from (faults.repeated {arm = arm} has datatype there e) s shows = among (exact.here (again (pattern_there E arm has).1 datatype (λ opens. shows.closed arm.con there opens) e))
  breaks_from (faults.in_variables p br) s shows = let fit = fitting shows p in among (exact.here (variable fit.fits p.datatype fit.opens (rw p.are_fields at br)))
  breaks_from (faults.in_arm p met br) s shows = let fit = fitting shows p in among (exact.here (body fit.fits p.datatype fit.opens (rw p.are_fields at met) (rw p.are_fields at br)))
  breaks_from (faults.disagrees {T = T} p met typed other e) s shows = let fit = fitting shows p in among (exact.here (unlike fit.fits p.datatype fit.opens (rw p.are_fields at met) (rw p.are_fields at typed) (λ agree. other (agree_to T shows agree)) e))
  breaks_from (faults.later_arm {arm = arm} {t = t} {T = T} p met typed agree br) s shows =
      let fit = fitting shows p in
      let f : ArmFound E bound on s arm (filled E bound on s arm.con t T) = record { c = p.con; t = t; T = T; pattern = fit.fits; datatype = p.datatype; opens = fit.opens; met = rw p.are_fields at met; typed = rw p.are_fields at typed; agree = agree_from T shows agree; same = refl } in
      behind_one f (breaks_from br (filled E bound on s arm.con t T) (shows_next f shows))
  breaks_from (faults.missing {k = k} {D = D} stands below absent e) s shows =
      let same : D ≡ on.datatype = one_some (sym stands ∙ declared) in
      lacking_one s exact.none (open_one s.bodies k (shows.opens k (rw (shows.same, ← same) below) absent)) e

-- The whole match.
module _ (E : Env) (open_ : IsDeclaring E) (bound : List Ty) (at : ℕ) (scrutinee : RawTerm) (arms : List RawArm) where
  start_typed : (on : Chosen) (k : ℕ) (t : Term) → slice_get (no_arms on.datatype).bodies k ≡ Some (Some t) → SlotTyped E bound on (no_arms on.datatype) k t
  start_typed on k t e = absurd (replicate_open (length on.datatype.cons) k t e)

  -- the slots after all arms, where each constructor has one
  module _ (on : Chosen) (declared : slice_get E.program.datatypes on.number ≡ Some on.datatype) (u : Slots) (found : ArmsFound E bound on (no_arms on.datatype) arms u) (bodies : List Term) (full : all_filled u.bodies ≡ Some bodies) where
    slots_are : u.bodies ≡ map (λ (t : Term). Some t) bodies
    slots_are = filled_is u.bodies bodies full

    body_count : length bodies ≡ length on.datatype.cons
    body_count = sym (length-map bodies (λ (t : Term). Some t)) ∙ ap length (sym slots_are) ∙ arms_length E bound on found ∙ replicate_length (length on.datatype.cons)

    arm_count : length arms ≡ length bodies
    arm_count =
        let none_left : open_count u.bodies ≡ 0 = ap open_count slots_are ∙ none_open_left bodies in
        let start : open_count (no_arms on.datatype).bodies ≡ length on.datatype.cons = open_replicate (length on.datatype.cons) in
        let all : open_count (no_arms on.datatype).bodies ≡ length arms + open_count u.bodies = arms_open E bound on found in
        let count : length bodies ≡ length on.datatype.cons = body_count in
        omega arith

    slot_of : (k : ℕ) (t : Term) → slice_get bodies k ≡ Some t → slice_get u.bodies k ≡ Some (Some t)
    slot_of k t e = ap (λ (xs : List (Option Term)). slice_get xs k) slots_are ∙ get_map bodies k t e

    body_of_slot : (k : ℕ) (t : Term) → slice_get u.bodies k ≡ Some (Some t) → slice_get bodies k ≡ Some t
    body_of_slot k t e = map_get bodies k t (ap (λ (xs : List (Option Term)). slice_get xs k) (sym slots_are) ∙ e)

    slot_typed : (k : ℕ) (t : Term) → slice_get bodies k ≡ Some t → SlotTyped E bound on u k t
    slot_typed k t e = arms_typed E bound on declared found (start_typed on) k t (slot_of k t e)

    arms_have : (T : Ty) → u.ty ≡ Some T → HaveTypesInArms E.program E.place E.context bound on.types on.datatype.cons bodies T
    arms_have T ty = have_arms E bound on on.datatype.cons bodies T (sym body_count) (λ k t e. let typed = slot_typed k t e in let same : typed.T ≡ T = one_some (sym typed.same ∙ ty) in rw same at typed.typed)

    ty_there : u.ty ≡ None → ⊥
    ty_there e =
        let some : 0 < length bodies = rw body_count (open_.some on.number on.datatype declared) in
        let one = get_at bodies 0 some in
        let typed = slot_typed 0 one.0 one.1 in
        some_none typed.T (sym typed.same ∙ e)

    match_typed : (t : Term) (U T : Ty) → IsTyped E bound (out-RawKind scrutinee.kind) t U → U ≡ type.Con on.number on.types → u.ty ≡ Some T → IsTyped E bound (RawKind-F.Match scrutinee arms) (term.Match t on.number on.types bodies) T
    match_typed t U T typed same ty = record {
      is = written.choice typed.is (arms_are E bound on found bodies body_of_slot) (arms_distinct E bound on found) arm_count refl;
      has = rw (term.outs-Match t on.number on.types bodies) (typing.choose typed.has same declared (arms_have T ty));
    }

  -- What a typed match is made of.
  record MatchTaken (t : Term) (T : Ty) : Type 0 where
    on : Chosen
    scrutinee_term : Term
    U : Ty
    typed : IsTyped E bound (out-RawKind scrutinee.kind) scrutinee_term U
    is : ChosenIs E.program U on
    u : Slots
    found : ArmsFound E bound on (no_arms on.datatype) arms u
    bodies : List Term
    full : all_filled u.bodies ≡ Some bodies
    ty : u.ty ≡ Some T
    same : t ≡ term.Match scrutinee_term on.number on.types bodies

  cons_within : {d : ℕ} {bodies : List Term} {arms : List RawArm} → AreArms E.program d bodies arms → (k : ℕ) → Contains (cons_of arms) k → k < length bodies
  cons_within written.no_arm k h = absurd (omega (arith, h.1))
  cons_within {bodies = bodies} (written.arm {raw = arm} {raws = arms} {body = t} datatype has stands is are) k h = elim (contains_cases arm.con k (cons_of arms) h) [
    | inl same ↦ rw (← same) (get_within bodies arm.con t stands)
    | inr there ↦ cons_within are k there
  ]

  all_closed : (on : Chosen) (u : Slots) → ArmsFound E bound on (no_arms on.datatype) arms u → (bodies : List Term) → length arms ≡ length bodies → length on.datatype.cons ≡ length bodies → open_count u.bodies ≡ 0
  all_closed on u found bodies counts lengths =
      let start : open_count (no_arms on.datatype).bodies ≡ length on.datatype.cons = open_replicate (length on.datatype.cons) in
      let all : open_count (no_arms on.datatype).bodies ≡ length arms + open_count u.bodies = arms_open E bound on found in
      omega arith

  taken_as : (t o : Term) (d : ℕ) (types : List Ty) (bodies : List Term) (T : Ty) → IsTermLayer E.program (out-RawKind scrutinee.kind) o → AreArms E.program d bodies arms → AreDistinct (cons_of arms) → length arms ≡ length bodies → t ≡ term.Match o d types bodies → HasTypeLayer E.program E.place E.context bound (Term-F.Match o d types bodies) T → MatchTaken t T
  taken_as t o d types bodies T is are once counts same (typing.choose {U = U} {D = D} has type_is stands have) =
      let on : Chosen = record { number = d; types = types; datatype = D } in
      let lengths : length D.cons ≡ length bodies = arms_lengths E bound on have in
      let filling = fill E bound on stands bodies T have arms (no_arms D) are once (λ k h. replicate_get (length D.cons) k (rw lengths (cons_within are k h))) (λ k u e. absurd (replicate_open (length D.cons) k u e)) (inl refl) in
      let full = none_open filling.u.bodies (all_closed on filling.u filling.found bodies counts lengths) in
      let sizes : length full.0 ≡ length bodies = sym (length-map full.0 (λ (t : Term). Some t)) ∙ ap length (sym full.1) ∙ arms_length E bound on filling.found ∙ replicate_length (length D.cons) ∙ lengths in
      let are_bodies : full.0 ≡ bodies = same_at full.0 bodies sizes (λ k u e. filling.agree k u (ap (λ (xs : List (Option Term)). slice_get xs k) full.1 ∙ get_map full.0 k u e)) in
      let some : 0 < length D.cons = open_.some d D stands in
      let some_arm : 0 < length arms = omega arith in
      record {
        on = on;
        scrutinee_term = o;
        U = U;
        typed = record { is = is; has = has };
        is = record { same = type_is; stands = stands };
        u = filling.u;
        found = filling.found;
        bodies = bodies;
        full = ap all_filled full.1 ∙ filled_all full.0 ∙ ap Some are_bodies;
        ty = filling.ty some_arm;
        same = same;
      }

  match_taken : (t : Term) (T : Ty) → IsTyped E bound (RawKind-F.Match scrutinee arms) t T → MatchTaken t T
  match_taken t T typed = go typed.is
    where
      go : IsTermLayer E.program (RawKind-F.Match scrutinee arms) t → MatchTaken t T
      go (written.choice {on = o} {d = d} {types = types} {bodies = bodies} is are once counts same) = taken_as t o d types bodies T is are once counts same (rw (same, term.outs-Match o d types bodies) at typed.has)

  -- the type of a scrutinee is the datatype
  of_datatype : (on : Chosen) (t : Term) (U : Ty) → ChosenIs E.program U on → IsTyped E bound (out-RawKind scrutinee.kind) t U → IsTyped E bound (out-RawKind scrutinee.kind) t (type.Con on.number on.types)
  of_datatype on t U is typed = rw is.same at typed

  pub exact_match : TermIsExact E scrutinee → Every (λ (arm : RawArm). TermIsExact E arm.body) arms → Exact (match_found E bound at (part_of E scrutinee) (map (arm_part E) arms)) (λ (found : Typed). IsTyped E bound (RawKind-F.Match scrutinee arms) found.term found.ty) (Breaks E bound at (RawKind-F.Match scrutinee arms))
  unfolding match_found term_found
  exact_match one all = exact_as
      (exact_then (one bound) (λ found typed.
      exact_then (exact_there (chosen_of E.program (out-Ty found.ty)) Mismatch (part_of E scrutinee).at) (λ on is.
      exact_then (exact_arms E bound on (no_arms on.datatype) arms all) (λ u fs.
      exact_then (exact_there (all_filled u.bodies) ArmMissing at) (λ bodies full.
      exact_then (exact_there u.ty ArmMissing at) (λ T ty.
      exact_ok (record { term = term.Match found.term on.number on.types bodies; ty = T })))))))
      (λ found both.
      let rest = both.after in
      let chosen = chosen_some E.program both.x.ty rest.x rest.is in
      let last = rest.after.after in
      rw last.after.after (match_typed rest.x chosen.stands rest.after.x rest.after.is last.x last.is both.x.term both.x.ty last.after.x both.is chosen.same last.after.is))
      (λ found typed. let taken = match_taken found.term found.ty typed in record {
        x = record { term = taken.scrutinee_term; ty = taken.U };
        is = taken.typed;
        after = record {
          x = taken.on;
          is = chosen_made E.program taken.U taken.on taken.is;
          after = record {
            x = taken.u;
            is = taken.found;
            after = record { x = taken.bodies; is = taken.full; after = record { x = found.ty; is = taken.ty; after = λ i. record { term = taken.same i; ty = found.ty } } };
          };
        };
      })
      (λ b h. elim h [
        | first br ↦ faults.in_scrutinee br
        | later found typed h2 ↦ elim h2 [
          | first barred ↦ faults.no_datatype typed (not_datatype E.program found.ty barred.0) (barred.1 ∙ ap (breaks Mismatch) (part_at E scrutinee))
          | later on is h3 ↦
              let chosen = chosen_some E.program found.ty on is in
              let typed_as : IsTyped E bound (out-RawKind scrutinee.kind) found.term (type.Con on.number on.types) = of_datatype on found.term found.ty chosen typed in
              elim h3 [
                | first br ↦ faults.among_arms typed_as chosen.stands (breaks_to E bound on at chosen.stands br (record { cons = []; T = None }) (shows_start E bound on at chosen.stands))
                | later u fs h4 ↦ elim h4 [
                  | first lacks ↦ faults.among_arms typed_as chosen.stands (missing_to E bound on at chosen.stands fs (record { cons = []; T = None }) (shows_start E bound on at chosen.stands) lacks.0 lacks.1)
                  | later bodies full h5 ↦ elim h5 [ first nothing ↦ absurd (ty_there on chosen.stands u fs bodies full nothing.0) | later T ty nothing ↦ absurd nothing ]
                ]
              ]
        ]
      ])
      (λ b h. elim h [
        | faults.counts wrong e ↦ absurd (wrong tt)
        | faults.types counts br ↦ elim br [ ]
        | faults.in_scrutinee br ↦ first br
        | faults.no_datatype {t = t} {U = U} typed barred e ↦ later (record { term = t; ty = U }) typed (first (datatype_not E.program U barred, e ∙ ap (breaks Mismatch) (sym (part_at E scrutinee))))
        | faults.among_arms {d = d} {types = types} {t = t} {D = D} typed stands br ↦
            let on : Chosen = record { number = d; types = types; datatype = D } in
            later (record { term = t; ty = type.Con d types }) typed (later on (chosen_made E.program (type.Con d types) on (record { same = refl; stands = stands })) (elim (breaks_from E bound on at stands br (no_arms D) (shows_start E bound on at stands)) [
              | among x ↦ first x
              | lacking_one u fs e is ↦ later u fs (first (e, is))
            ]))
      ])

-- An arm with the fields of its constructor put in for its pattern variables is typed.
use Rattle.std.proofs.Common.{◌≡◌, ℕ, suc, ◌+◌, List, [], ◌∷◌, ◌++◌, map, reverse, length, Option, Some, slice_get, unwrap_or}
use Rattle.std.proofs.Common.{sym, ap, ◌∙◌, subst}
use Rattle.std.proofs.Common.{arith, append_assoc, length-append, append-nil}
use Rattle.std.specs.Option.{option_map}
use Rattle.std.proofs.lemmas.List.{length-map, length-reverse}
use Rattle.px_terms.specs.declared.types.Ty.{Ty}
use Rattle.px_terms.specs.declared.term.Term.{Term, out-Term}
use Rattle.px_terms.specs.declared.term.Term.TheVariants as term
use Rattle.px_terms.specs.declared.term.Term.TheViews.{roll-Term, roll-out-Term}
use Rattle.px_terms.specs.declared.term.Term.TheOpen.{Term-F}
use Rattle.px_terms.specs.declared.term.Term.TheFolds.{fold-Term, map-Term, fold-roll-Term}
use Rattle.px_terms.specs.declared.program.ConDef.{ConDef}
use Rattle.px_terms.specs.declared.program.DataDef.{DataDef}
use Rattle.px_terms.specs.declared.program.Program.{Program}
use Rattle.px_terms.specs.declared.sequent.Context.{Context}
use Rattle.px_terms.specs.Types.{numbers_from, ty_instance, tys_instance}
use Rattle.px_terms.specs.Descent.{field_count}
use Rattle.px_terms.specs.Steps.{around_part, arms_with, fields_step, with_fields}
use Rattle.px_terms.specs.Typing.{anywhere, HasTypeLayer, HaveTypes, HaveTypesInArms}
use Rattle.px_terms.specs.Typing as typing
use Rattle.px_totality.proofs.TypesOfTerms.{constructor_of}
use Rattle.px_soundness.proofs.TypesOfLists.{of_layer, TermOf, term_of, have_append, have_reversed, all_weaker}

-- a constructor that stands in a datatype has as many fields as it says
pub counted : (Q : Program) (d k : ℕ) (D : DataDef) (c : ConDef) → slice_get Q.datatypes d ≡ Some D → slice_get D.cons k ≡ Some c →
    field_count Q d k ≡ length c.fields
counted Q d k D c found at =
    ap (λ (o : Option ConDef). unwrap_or (option_map (λ (c : ConDef). length c.fields) o) 0) (constructor_of Q d k D found ∙ at)

module _ (Q : Program) (context : Context) where
  -- the pattern variables from a number on have the types from it on
  variables_typed : (bound rest : List Ty) (s : ℕ) → ((i : ℕ) → slice_get bound (s + i) ≡ slice_get rest i) →
      HaveTypes Q anywhere context bound (map (λ (i : ℕ). term.Bound i) (numbers_from s (length rest))) rest
  variables_typed bound [] s same = typing.none
  variables_typed bound (T ∷ rest) s same =
      let none : s + 0 ≡ s = omega arith in
      let here : slice_get bound s ≡ Some T = ap (slice_get bound) (sym none) ∙ same 0 in
      typing.more (of_layer Q anywhere context (term.Bound s) (term.outs-Bound s) (typing.bound here tt))
      (variables_typed bound rest (s + 1) (λ i. let one : (s + 1) + i ≡ s + suc i = omega arith in ap (slice_get bound) one ∙ same (suc i)))

  module _ (fields : List Term) (types : List Ty) (have : HaveTypes Q anywhere context [] fields types) where
    -- a term with the fields put in
    abbrev put : Term → ℕ → Term
    put = fold-Term (ℕ → Term) (fields_step Q fields)

    -- the term with the fields put in has the type under the inner pattern variables alone
    abbrev Keeps : List Ty → Term → Ty → Type 0
    Keeps inner t T = HasTypeLayer Q anywhere context inner (out-Term (put t (length inner))) T

    -- what the pattern variables around a part stand for has their types
    around_typed : (inner : List Ty) → HaveTypes Q anywhere context inner (around_part (length inner) fields) (inner ++ reverse types)
    around_typed inner =
        have_append Q anywhere context
        (variables_typed inner inner 0 (λ i. let same : 0 + i ≡ i = omega arith in ap (slice_get inner) same))
        (all_weaker Q anywhere context (have_reversed Q anywhere context have) inner)

    bound_keeps : (inner : List Ty) (i : ℕ) (T : Ty) → slice_get (inner ++ reverse types) i ≡ Some T → Keeps inner (roll-Term (Term-F.Bound i)) T
    bound_keeps inner i T found =
        let there : TermOf Q anywhere context inner (around_part (length inner) fields) i T = term_of Q anywhere context (around_typed inner) i T found in
        let stands : unwrap_or (slice_get (around_part (length inner) fields) i) (term.Bound i) ≡ there.t =
        ap (λ (o : Option Term). unwrap_or o (term.Bound i)) there.at in
        let made : put (roll-Term (Term-F.Bound i)) (length inner) ≡ unwrap_or (slice_get (around_part (length inner) fields) i) (term.Bound i) =
        ap (λ (part : ℕ → Term). part (length inner)) (fold-roll-Term (ℕ → Term) (fields_step Q fields) (Term-F.Bound i)) in
        subst (λ (t : Term). HasTypeLayer Q anywhere context inner (out-Term t) T) (sym (made ∙ stands)) there.typed

    -- what the layer of a term with the fields put in is, by what its parts are with them put in
    put_is : (inner : List Ty) (y z : Term-F Term) →
        out-Term (fields_step Q fields (map-Term Term (ℕ → Term) put y) (length inner)) ≡ z →
        out-Term (put (roll-Term y) (length inner)) ≡ z
    put_is inner y z e = ap (λ (part : ℕ → Term). out-Term (part (length inner))) (fold-roll-Term (ℕ → Term) (fields_step Q fields) y) ∙ e

    mutual
      layer_keeps : {bound : List Ty} {y : Term-F Term} {T : Ty} → HasTypeLayer Q anywhere context bound y T → (inner : List Ty) →
          bound ≡ inner ++ reverse types → Keeps inner (roll-Term y) T
      layer_keeps (typing.free {n = n} found met) inner e =
          of_layer Q anywhere context (put (roll-Term (Term-F.Free n)) (length inner))
          (put_is inner (Term-F.Free n) (Term-F.Free n) (term.outs-Free n))
          (typing.free found tt)
      layer_keeps (typing.bound {n = n} {T = T} found met) inner e =
          bound_keeps inner n T (ap (λ (bound : List Ty). slice_get bound n) (sym e) ∙ found)
      layer_keeps (typing.lit {w = w} small is) inner e =
          of_layer Q anywhere context (put (roll-Term (Term-F.Lit w)) (length inner))
          (put_is inner (Term-F.Lit w) (Term-F.Lit w) (term.outs-Lit w))
          (typing.lit small is)
      layer_keeps (typing.con {d = d} {k = k} {types = us} {fields = parts} found is T_is met parts_have) inner e =
          let new : List Term = map (λ (part : ℕ → Term). part (length inner)) (map put parts) in
          of_layer Q anywhere context (put (roll-Term (Term-F.Con d k us parts)) (length inner))
          (put_is inner (Term-F.Con d k us parts) (Term-F.Con d k us new) (term.outs-Con d k us new))
          (typing.con found is T_is tt (all_keep parts_have inner e))
      layer_keeps (typing.call {f = f} {funs = funs} {args = args} function may types_met met arguments args_have) inner e =
          let new : List Term = map (λ (part : ℕ → Term). part (length inner)) (map put args) in
          of_layer Q anywhere context (put (roll-Term (Term-F.Call f funs args)) (length inner))
          (put_is inner (Term-F.Call f funs args) (Term-F.Call f funs new) (term.outs-Call f funs new))
          (typing.call function may types_met met arguments (all_keep args_have inner e))
      layer_keeps (typing.choose {on = on} {d = d} {types = us} {arms = arms} {U = U} {D = D} is U_is found arms_have) inner e =
          let new : List Term = arms_with Q d 0 (map put arms) (length inner) in
          of_layer Q anywhere context (put (roll-Term (Term-F.Match on d us arms)) (length inner))
          (put_is inner (Term-F.Match on d us arms) (Term-F.Match (put on (length inner)) d us new) (term.outs-Match (put on (length inner)) d us new))
          (typing.choose (subst (λ (t : Term). Keeps inner t U) (roll-out-Term on) (layer_keeps is inner e)) U_is found
          (arms_keep arms_have inner e d D found 0 (λ i. let same : 0 + i ≡ i = omega arith in ap (slice_get D.cons) same)))

      all_keep : {bound : List Ty} {parts : List Term} {wanted : List Ty} → HaveTypes Q anywhere context bound parts wanted → (inner : List Ty) →
          bound ≡ inner ++ reverse types →
          HaveTypes Q anywhere context inner (map (λ (part : ℕ → Term). part (length inner)) (map put parts)) wanted
      all_keep typing.none inner e = typing.none
      all_keep (typing.more {t = t} {T = T} is others) inner e =
          typing.more (subst (λ (t : Term). Keeps inner t T) (roll-out-Term t) (layer_keeps is inner e)) (all_keep others inner e)

      arms_keep : {bound us : List Ty} {cs : List ConDef} {arms : List Term} {T : Ty} → HaveTypesInArms Q anywhere context bound us cs arms T →
          (inner : List Ty) → bound ≡ inner ++ reverse types → (d : ℕ) (D : DataDef) → slice_get Q.datatypes d ≡ Some D → (k : ℕ) →
          ((i : ℕ) → slice_get D.cons (k + i) ≡ slice_get cs i) →
          HaveTypesInArms Q anywhere context inner us cs (arms_with Q d k (map put arms) (length inner)) T
      arms_keep typing.no_arm inner e d D found k same = typing.no_arm
      arms_keep {bound} (typing.arm {types = us} {c = c} {cs = cs} {body = body} {T = T} met is others) inner e d D found k same =
          let front : List Ty = reverse (tys_instance us c.fields) in
          let under : List Ty = front ++ inner in
          let none : k + 0 ≡ k = omega arith in
          let here : slice_get D.cons k ≡ Some c = ap (slice_get D.cons) (sym none) ∙ same 0 in
          let many : length front ≡ field_count Q d k =
          length-reverse (tys_instance us c.fields) ∙ length-map c.fields (ty_instance us) ∙ sym (counted Q d k D c found here) in
          let long : length under ≡ field_count Q d k + length inner = length-append front inner ∙ ap (λ (n : ℕ). n + length inner) many in
          let stands : front ++ bound ≡ under ++ reverse types =
          ap (λ (bound : List Ty). front ++ bound) e ∙ sym (append_assoc front inner (reverse types)) in
          let kept : Keeps under body T = subst (λ (t : Term). Keeps under t T) (roll-out-Term body) (layer_keeps is under stands) in
          typing.arm (λ i x below. tt) (subst (λ (n : ℕ). HasTypeLayer Q anywhere context under (out-Term (put body n)) T) long kept)
          (arms_keep others inner e d D found (k + 1)
          (λ i. let one : (k + 1) + i ≡ k + suc i = omega arith in ap (slice_get D.cons) one ∙ same (suc i)))

    -- the arm with the fields put in has the arm's type
    pub with_fields_typed : (arm : Term) (T : Ty) → HasTypeLayer Q anywhere context (reverse types ++ []) (out-Term arm) T →
        HasTypeLayer Q anywhere context [] (out-Term (with_fields Q fields arm)) T
    with_fields_typed arm T is =
        subst (λ (t : Term). Keeps [] t T) (roll-out-Term arm) (layer_keeps is [] (append-nil (reverse types)))

-- Loops over properties, and over the functions of which they are assumed.
use Rattle.std.proofs.Common.{◌≡◌, ℕ, zero, suc, ◌+◌, ◌<◌, ◌≤◌, List, [], ◌∷◌, length, get_or, drop, Option, Result, Ok, refl, sym, ◌∙◌, ap, subst, add-one}
use Rattle.std.proofs.Common.{drop-cons}
use Rattle.std.specs.Prelude.{slice_get}
use Rattle.std.specs.Option.{option_map}
use Rattle.std.proofs.lemmas.List.{drop_all, drop-drop}
use Rattle.px_base.specs.declared.head.Head.{Head}
use Rattle.px_base.specs.declared.head.Head.TheVariants.{FnVar}
use Rattle.px_base.specs.declared.raw.RawProp.{RawProp}
use Rattle.px_base.specs.declared.raw.RawFnType.{RawFnType}
use Rattle.px_terms.specs.declared.types.Ty.{Ty}
use Rattle.px_terms.specs.declared.types.FnType.{FnType}
use Rattle.px_terms.specs.declared.program.Program.{Program}
use Rattle.px_types.specs.declared.ends.TypeEnd.{TypeEnd}
use Rattle.px_types.specs.declared.ends.TypeKind.TheVariants.{PropertyShape}
use Rattle.px_types.specs.Faults.{Broken}
use Rattle.px_types.specs.Answers.{EndsAs}
use Rattle.px_types.specs.Outcomes.{onward, needs}
use Rattle.px_types.specs.Outcome.{passes}
use Rattle.px_types.specs.NextOutcome.{fits, fits_pair, pair_of, prop_found, props_found, assumed_found}
use Rattle.px_types.proofs.Stages.{stage, stage_fails}

-- what is left of a list at a place within it
left_at : {X : Type 0} (xs : List X) (i : ℕ) (x d : X) → i < length xs → x ≡ get_or xs i d → drop i xs ≡ x ∷ drop (i + 1) xs
left_at xs i x d below is = rw (add-one, drop-cons xs i d, ← is) refl

module _ (P : Program) (funs : List FnType) (h : Head) (props : List RawProp) where
  props_at : (i : ℕ) (d : RawProp) → i < length props → props_found P funs h (drop i props) ≡ onward (prop_found P funs h (get_or props i d))
      (λ (_ : Unit {0}). props_found P funs h (drop (i + 1) props))
  unfolding props_found
  props_at i d below = ap (λ (xs : List RawProp). props_found P funs h xs) (left_at props i (get_or props i d) d below refl)

  pub props_next : (i : ℕ) (d : RawProp) (done : Unit {0}) → i < length props → prop_found P funs h (get_or props i d) ≡ Ok done →
      props_found P funs h (drop i props) ≡ props_found P funs h props → props_found P funs h (drop (i + 1) props) ≡ props_found P funs h props
  props_next i d done below is before = sym (stage _ _ (props_at i d below) done is) ∙ before

  pub props_fail : (i : ℕ) (d : RawProp) (end : TypeEnd) → i < length props → EndsAs (prop_found P funs h (get_or props i d)) end →
      props_found P funs h (drop i props) ≡ props_found P funs h props → EndsAs (props_found P funs h props) end
  props_fail i d end below is before = stage_fails _ _ _ (sym before ∙ props_at i d below) end is

  pub props_end : (i : ℕ) → length props ≤ i → props_found P funs h (drop i props) ≡ props_found P funs h props → props_found P funs h props ≡ Ok tt
  unfolding props_found
  props_end i past before = sym before ∙ ap (λ (xs : List RawProp). props_found P funs h xs) (drop_all i props past)

-- the first of what is left is the one at that place
first_left : {X : Type 0} (xs : List X) (i : ℕ) → slice_get (drop i xs) 0 ≡ slice_get xs i
first_left [] zero = refl
first_left [] (suc i) = refl
first_left (x ∷ xs) zero = refl
first_left (x ∷ xs) (suc i) = first_left xs i

module _ (P : Program) (funs : List FnType) where
  fits_left : (i : ℕ) (raw : RawProp) → prop_found P (drop i funs) (FnVar 0) raw ≡ prop_found P funs (FnVar i) raw
  unfolding prop_found fits
  fits_left i raw =
      ap (λ (o : Option FnType). needs (passes (λ (s : List Ty × Ty). passes (fits_pair raw.prop s.1) (pair_of s.0))
      (option_map (λ (F : FnType). (F.params, F.result)) o)) PropertyShape raw.at) (first_left funs i)

  props_left : (i : ℕ) (props : List RawProp) → props_found P (drop i funs) (FnVar 0) props ≡ props_found P funs (FnVar i) props
  unfolding props_found
  props_left i [] = refl
  props_left i (raw ∷ raws) = λ j. onward (fits_left i raw j) (λ (_ : Unit {0}). props_left i raws j)

  module _ (raws : List RawFnType) where
    assumed_at : (i : ℕ) (raw d : RawFnType) → i < length raws → raw ≡ get_or raws i d →
        assumed_found P funs i (drop i raws) ≡ onward (props_found P funs (FnVar i) raw.props) (λ (_ : Unit {0}). assumed_found P funs (i + 1)
        (drop (i + 1) raws))
    unfolding assumed_found
    assumed_at i raw d below is = ap (λ (xs : List RawFnType). assumed_found P funs i xs) (left_at raws i raw d below is)

    pub assumed_next : (i : ℕ) (raw d : RawFnType) (props : List RawProp) (rest : List FnType) (done : Unit {0}) → i < length raws → raw ≡ get_or raws i d →
        props ≡ raw.props → rest ≡ drop i funs → props_found P rest (FnVar 0) props ≡ Ok done →
        assumed_found P funs i (drop i raws) ≡ assumed_found P funs 0 raws → assumed_found P funs (i + 1) (drop (i + 1) raws) ≡ assumed_found P funs 0 raws
    assumed_next i raw d props rest done below is same left found before =
        let here : props_found P funs (FnVar i) raw.props ≡ Ok done = sym (props_left i raw.props) ∙ rw (same, left) at found in
        sym (stage _ _ (assumed_at i raw d below is) done here) ∙ before

    pub assumed_fail : (i : ℕ) (raw d : RawFnType) (props : List RawProp) (rest : List FnType) (end : TypeEnd) → i < length raws → raw ≡ get_or raws i d →
        props ≡ raw.props → rest ≡ drop i funs → EndsAs (props_found P rest (FnVar 0) props) end →
        assumed_found P funs i (drop i raws) ≡ assumed_found P funs 0 raws → EndsAs (assumed_found P funs 0 raws) end
    assumed_fail i raw d props rest end below is same left found before =
        let e : props_found P rest (FnVar 0) props ≡ props_found P funs (FnVar i) raw.props = rw (same, left) (props_left i raw.props) in
        stage_fails _ _ _ (sym before ∙ assumed_at i raw d below is) end (subst (λ (o : Result (Unit {0}) Broken). EndsAs o end) e found)

    pub assumed_end : (i : ℕ) → length raws ≤ i → assumed_found P funs i (drop i raws) ≡ assumed_found P funs 0 raws → assumed_found P funs 0 raws ≡ Ok tt
    unfolding assumed_found
    assumed_end i past before = sym before ∙ ap (λ (xs : List RawFnType). assumed_found P funs i xs) (drop_all i raws past)

  pub left_next : (i : ℕ) (rest behind : List FnType) → rest ≡ drop i funs → behind ≡ drop 1 rest → behind ≡ drop (i + 1) funs
  left_next i rest behind left is = is ∙ ap (λ (xs : List FnType). drop 1 xs) left ∙ drop-drop 1 i funs

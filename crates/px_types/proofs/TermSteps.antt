-- Terms, as the code types them.
use Rattle.std.proofs.Common.{◌≡◌, ℕ, zero, suc, ◌-◌, ◌<◌, ◌≤◌, ◌^◌, Bool, ◌==◌, List, [], ◌∷◌, length, map, reverse, Option, Some, None, Result, Ok, Err}
use Rattle.std.proofs.Common.{refl, sym, ◌∙◌, ap, subst, arith}
use Rattle.std.specs.Prelude.{slice_get}
use Rattle.std.specs.Option.{option_and_then}
use Rattle.std.specs.Result.{IsErrAnd}
use Rattle.std.proofs.lemmas.Bool.{lt-ltb}
use Rattle.std.proofs.lemmas.List.{get_or-reverse, length-reverse}
use Rattle.std.proofs.lemmas.Option.{slice_get-get_or, slice_get_past}
use Rattle.px_base.specs.declared.raw.RawTy.{RawTy}
use Rattle.px_base.specs.declared.raw.RawFun.{RawFun}
use Rattle.px_base.specs.declared.raw.RawKind.{RawKind, out-RawKind}
use Rattle.px_base.specs.declared.raw.RawKind.TheOpen.{RawKind-F}
use Rattle.px_base.specs.declared.raw.RawKind.TheVariants as kinds
use Rattle.px_base.specs.declared.raw.RawTerm.{RawTerm}
use Rattle.px_base.specs.declared.raw.RawArm.{RawArm}
use Rattle.px_terms.specs.declared.types.Ty.{Ty}
use Rattle.px_terms.specs.declared.types.Ty.TheVariants as type
use Rattle.px_terms.specs.declared.term.Term.{Term}
use Rattle.px_terms.specs.declared.term.Term.TheVariants as term
use Rattle.px_terms.specs.Typing.{live}
use Rattle.px_types.specs.declared.ends.TypeEnd.{TypeEnd}
use Rattle.px_types.specs.declared.ends.TypeKind.TheVariants.{Mismatch, Arity, Oversize}
use Rattle.px_types.specs.declared.typed.Typed.{Typed}
use Rattle.px_types.specs.Faults.{Broken, Env}
use Rattle.px_types.specs.Answers.{EndsAs, Answers}
use Rattle.px_types.specs.Outcomes.{onward, needs, there, each_two}
use Rattle.px_types.specs.Outcome.{ArmPart, part_of, term_found, parts_found, part_found, is_met, same, type_of_variable, variable_found, con_found}
use Rattle.px_types.specs.Outcome.{call_found, match_found}
use Rattle.px_types.specs.Envs.{arm_of, variable_type_found}
use Rattle.px_types.proofs.Stages.{stage, stage_fails, passed_on}
use Rattle.px_types.proofs.TermShapes.{arm_part, layer_found, term_found_is, part_at}
use Rattle.px_types.proofs.TwoLoops.{each_two_made}

-- the answer of a call is that of what it stands for
pub answers_as : {T : Type 0} (o p : Result T Broken) (r : Result T TypeEnd) → p ≡ o → Answers o r → Answers p r
answers_as o p r e h = subst (λ (x : Result _ Broken). Answers x r) (sym e) h

three : {A B C T : Type 0} (a : Result A Broken) (b : Result B Broken) (c : B → Result C Broken) (g : B → Result T Broken) →
    onward (onward a (λ _. onward b (λ (x : B). onward (c x) (λ _. Ok x)))) g ≡ onward a (λ _. onward b (λ (x : B). onward (c x) (λ _. g x)))
unfolding onward
three (Err e) b c g = refl
three (Ok x) (Err e) c g = refl
three (Ok x) (Ok y) c g = last (c y)
  where
    last : {C : Type 0} (o : Result C Broken) → onward (onward o (λ _. Ok y)) g ≡ onward o (λ _. g y)
    last (Ok z) = refl
    last (Err e) = refl

-- what a variable is found to be, from its type
pub variable_is : (E : Env) (t : Term) (stands : Option Ty) (types : List RawTy) (at : ℕ) →
    variable_found E t stands types at ≡ onward (variable_type_found E stands types at) (λ (T : Ty). Ok (record { term = t; ty = T }))
unfolding variable_found variable_type_found
variable_is E t stands types at =
    sym (three (needs (length types == 0) Arity at) (there stands Arity at) (λ (T : Ty). needs (is_met E.place T) Oversize at)
    (λ (T : Ty). Ok (record { term = t; ty = T })))

-- A variable, whose type is looked up in another way.
module _ (E : Env) (at : ℕ) (t : Term) (types : List RawTy) (stands o : Option Ty) (same : o ≡ stands) {whole : Result Typed Broken}
    (is : whole ≡ onward (variable_type_found E stands types at) (λ (T : Ty). Ok (record { term = t; ty = T }))) where
  pub variable_fails : (r : Result Typed TypeEnd) (end : TypeEnd) → IsErrAnd r (λ (e : TypeEnd). e ≡ end) → EndsAs (variable_type_found E o types at) end →
      Answers whole r
  variable_fails r end ended h =
      passed_on (variable_type_found E stands types at) (λ (T : Ty). Ok (record { term = t; ty = T })) whole is r end ended
      (subst (λ (x : Option Ty). EndsAs (variable_type_found E x types at) end) same h)

  pub variable_typed : (T : Ty) → variable_type_found E o types at ≡ Ok T → whole ≡ Ok (record { term = t; ty = T })
  variable_typed T h =
      stage (variable_type_found E stands types at) (λ (T : Ty). Ok (record { term = t; ty = T })) is T
      (ap (λ (x : Option Ty). variable_type_found E x types at) (sym same) ∙ h)

-- all data variables are live
pub live_type : (vars : List Ty) (n : ℕ) → option_and_then (λ (slot : Option Ty). slot) (slice_get (live vars) n) ≡ slice_get vars n
live_type [] n = refl
live_type (T ∷ vars) zero = refl
live_type (T ∷ vars) (suc n) = live_type vars n

-- the pattern variables, the innermost first
pub nearest_is : (bound looked : List Ty) (n : ℕ) (o : Option Ty) → looked ≡ bound → (length bound ≤ n → ⊥) → o ≡ slice_get looked (length bound - 1 - n) →
    o ≡ slice_get (reverse bound) n
nearest_is bound looked n o same below e = e ∙ ap (λ (xs : List Ty). slice_get xs (length bound - 1 - n)) same ∙ turned bound n (omega arith)
  where
    turned : (bound : List Ty) (n : ℕ) → n < length bound → slice_get bound (length bound - 1 - n) ≡ slice_get (reverse bound) n
    turned [] n h = absurd (omega arith)
    turned (T ∷ bound) n h =
        let within : length (T ∷ bound) - 1 - n < length (T ∷ bound) = omega arith in
        let below : n < length (reverse (T ∷ bound)) = rw (length-reverse (T ∷ bound)) h in
        slice_get-get_or (T ∷ bound) (length (T ∷ bound) - 1 - n) T within ∙ ap Some (sym (get_or-reverse (T ∷ bound) n T h)) ∙ sym
        (slice_get-get_or (reverse (T ∷ bound)) n T below)

pub none_nearest : (bound : List Ty) (n : ℕ) → length bound ≤ n → None ≡ slice_get (reverse bound) n
none_nearest bound n h = sym (slice_get_past (reverse bound) n (rw (length-reverse bound) h))

-- What is found of each kind of term.
module _ (E : Env) (raw : RawTerm) (bound : List Ty) where
  by_layer : (kind : RawKind) (y : RawKind-F RawKind RawArm RawTerm) → raw.kind ≡ kind → out-RawKind kind ≡ y →
      term_found E raw bound ≡ layer_found E y raw.at bound
  by_layer kind y e layer = term_found_is E raw bound ∙ ap (λ (z : RawKind-F RawKind RawArm RawTerm). layer_found E z raw.at bound) (ap out-RawKind e ∙ layer)

  pub free_is : (n : ℕ) (types : List RawTy) → raw.kind ≡ kinds.Free n types →
      term_found E raw bound ≡ variable_found E (term.Free n) (type_of_variable E n) types raw.at
  free_is n types e = by_layer (kinds.Free n types) (RawKind-F.Free n types) e (kinds.outs-Free n types)

  pub bound_is : (n : ℕ) (types : List RawTy) → raw.kind ≡ kinds.Bound n types →
      term_found E raw bound ≡ onward (variable_type_found E (slice_get bound n) types raw.at) (λ (T : Ty). Ok (record { term = term.Bound n; ty = T }))
  bound_is n types e =
      by_layer (kinds.Bound n types) (RawKind-F.Bound n types) e (kinds.outs-Bound n types) ∙ variable_is E (term.Bound n) (slice_get bound n) types raw.at

  pub literal_is : (w : ℕ) → raw.kind ≡ kinds.Lit w → w < 2 ^ 64 → term_found E raw bound ≡ Ok (record { term = term.Lit w; ty = type.Word })
  unfolding onward needs
  literal_is w e small = by_layer (kinds.Lit w) (RawKind-F.Lit w) e (kinds.outs-Lit w) ∙ rw (lt-ltb w (2 ^ 64) small) refl

  pub con_is : (d k : ℕ) (types : List RawTy) (fields : List RawTerm) → raw.kind ≡ kinds.Con d k types fields →
      term_found E raw bound ≡ con_found E bound raw.at d k types (map (part_of E) fields)
  con_is d k types fields e = by_layer (kinds.Con d k types fields) (RawKind-F.Con d k types fields) e (kinds.outs-Con d k types fields)

  pub call_is : (f : RawFun) (funs : List RawFun) (args : List RawTerm) → raw.kind ≡ kinds.Call f funs args →
      term_found E raw bound ≡ call_found E bound raw.at f funs (map (part_of E) args)
  call_is f funs args e = by_layer (kinds.Call f funs args) (RawKind-F.Call f funs args) e (kinds.outs-Call f funs args)

  same_arms : (arms : List RawArm) → map (arm_part E) arms ≡ map (arm_of E) arms
  unfolding arm_part arm_of
  same_arms [] = refl
  same_arms (arm ∷ arms) =
      ap (λ (rest : List ArmPart). record { at = arm.at; datatype = arm.datatype; con = arm.con; vars = arm.vars; body = part_of E arm.body } ∷ rest)
      (same_arms arms)

  pub match_is : (on : RawTerm) (arms : List RawArm) → raw.kind ≡ kinds.Match on arms →
      term_found E raw bound ≡ match_found E bound raw.at (part_of E on) (map (arm_of E) arms)
  match_is on arms e =
      by_layer (kinds.Match on arms) (RawKind-F.Match on arms) e (kinds.outs-Match on arms) ∙ ap (match_found E bound raw.at (part_of E on)) (same_arms arms)

  -- a match whose scrutinee has a fault
  pub scrutinee_fails : (on : RawTerm) (arms : List RawArm) (end : TypeEnd) → raw.kind ≡ kinds.Match on arms → EndsAs (term_found E on bound) end →
      EndsAs (term_found E raw bound) end
  unfolding match_found term_found
  scrutinee_fails on arms end e h = stage_fails (term_found E on bound) _ (term_found E raw bound) (match_is on arms e) end h

  -- a match whose scrutinee is typed
  pub scrutinee_found : (on : RawTerm) (arms : List RawArm) (found : Typed) → raw.kind ≡ kinds.Match on arms → term_found E on bound ≡ Ok found →
      term_found E raw bound ≡ match_found E bound raw.at (record { at = on.at; own = λ _. Ok found }) (map (arm_of E) arms)
  unfolding match_found term_found
  scrutinee_found on arms found e h = match_is on arms e ∙ rw (part_at E on, h) refl

  -- and so the answer of the match is this one's, which has a scrutinee and a stack that are the same
  pub match_answers : (on got : RawTerm) (arms : List RawArm) (found : Typed) (stack first : List Ty) (r : Result Typed TypeEnd) →
      raw.kind ≡ kinds.Match on arms → term_found E on bound ≡ Ok found → got ≡ on → stack ≡ first → reverse first ≡ bound →
      Answers (match_found E (reverse stack) raw.at (record { at = got.at; own = λ _. Ok found }) (map (arm_of E) arms)) r → Answers (term_found E raw bound) r
  match_answers on got arms found stack first r e typed is kept outer h =
      let other : match_found E (reverse stack) raw.at (record { at = got.at; own = λ _. Ok found }) (map (arm_of E) arms) ≡ match_found E bound raw.at
      (record { at = on.at; own = λ _. Ok found }) (map (arm_of E) arms) = rw (kept, outer, is) refl in
      answers_as _ _ r (scrutinee_found on arms found e typed ∙ sym other) h

-- A part is tried for the wanted type's size, is typed, and has that type.
unfoldable pub part_here : Env → List Ty → RawTerm → Ty → Result Term Broken
part_here E bound raw T = part_found E bound (part_of E raw) T

pub parts_here : (E : Env) (bound : List Ty) (raws : List RawTerm) (types : List Ty) → parts_found E bound raws types ≡ each_two (part_here E bound) raws types
unfolding parts_found part_here
parts_here E bound raws types = each_two_made (part_found E bound) (part_of E) raws types

module _ (E : Env) (bound : List Ty) (raw : RawTerm) (T : Ty) where
  -- what follows the typing of a part, and what follows the test of the wanted type's size
  abbrev pub after_typing : Typed → Result Term Broken
  after_typing found = onward (needs (same found.ty T) Mismatch raw.at) (λ _. Ok found.term)

  abbrev pub after_size : Unit {0} → Result Term Broken
  after_size _ = onward (term_found E raw bound) after_typing

  pub part_is : part_found E bound (part_of E raw) T ≡ onward (needs (is_met E.place T) Oversize raw.at) after_size
  unfolding part_found term_found
  part_is = rw (part_at E raw) refl

  here_is : part_here E bound raw T ≡ onward (needs (is_met E.place T) Oversize raw.at) after_size
  unfolding part_here
  here_is = part_is

  module _ (met : Bool) (met_is : met ≡ is_met E.place T) where
    pub part_unmet : (end : TypeEnd) → EndsAs (needs met Oversize raw.at) end → EndsAs (part_here E bound raw T) end
    part_unmet end h =
        stage_fails (needs (is_met E.place T) Oversize raw.at) after_size (part_here E bound raw T) here_is end
        (subst (λ (b : Bool). EndsAs (needs b Oversize raw.at) end) met_is h)

    module _ (u : Unit {0}) (fits : needs met Oversize raw.at ≡ Ok u) where
      at_typing : part_here E bound raw T ≡ onward (term_found E raw bound) after_typing
      at_typing = stage (needs (is_met E.place T) Oversize raw.at) after_size here_is u (ap (λ (b : Bool). needs b Oversize raw.at) (sym met_is) ∙ fits)

      pub part_untyped : (end : TypeEnd) → EndsAs (term_found E raw bound) end → EndsAs (part_here E bound raw T) end
      part_untyped end h = stage_fails (term_found E raw bound) after_typing (part_here E bound raw T) at_typing end h

      module _ (found : Typed) (typed : term_found E raw bound ≡ Ok found) (alike : Bool) (alike_is : alike ≡ same found.ty T) where
        at_type : part_here E bound raw T ≡ after_typing found
        at_type = stage (term_found E raw bound) after_typing at_typing found typed

        pub part_other : (end : TypeEnd) → EndsAs (needs alike Mismatch raw.at) end → EndsAs (part_here E bound raw T) end
        part_other end h =
            stage_fails (needs (same found.ty T) Mismatch raw.at) (λ _. Ok found.term) (part_here E bound raw T) at_type end
            (subst (λ (b : Bool). EndsAs (needs b Mismatch raw.at) end) alike_is h)

        pub part_typed : (v : Unit {0}) → needs alike Mismatch raw.at ≡ Ok v → part_here E bound raw T ≡ Ok found.term
        part_typed v h =
            stage (needs (same found.ty T) Mismatch raw.at) (λ _. Ok found.term) at_type v (ap (λ (b : Bool). needs b Mismatch raw.at) (sym alike_is) ∙ h)

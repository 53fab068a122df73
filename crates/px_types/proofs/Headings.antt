-- What is found of a definition's heading, of its signature and of its body, by the stages of the code.
use Rattle.std.proofs.Common.{◌≡◌, ℕ, ◌<◌, List, [], ◌∷◌, ◌++◌, length, Result, Ok, Err, refl, sym, ◌∙◌, ap, subst, arith, length-append}
use Rattle.std.proofs.lemmas.List.{same_from_push}
use Rattle.px_base.specs.PropSets.{set_of}
use Rattle.px_base.specs.declared.head.Head.TheVariants.{Def}
use Rattle.px_base.specs.declared.prop.PropSet.{PropSet}
use Rattle.px_base.specs.declared.raw.RawProp.{RawProp}
use Rattle.px_base.specs.declared.raw.RawFnType.{RawFnType}
use Rattle.px_base.specs.declared.raw.RawDef.{RawDef}
use Rattle.px_terms.specs.declared.types.Ty.{Ty}
use Rattle.px_terms.specs.declared.types.FnType.{FnType}
use Rattle.px_terms.specs.declared.term.Term.{Term}
use Rattle.px_terms.specs.declared.term.Term.TheVariants as term
use Rattle.px_terms.specs.declared.program.Def as definition
use Rattle.px_terms.specs.declared.program.Program.{Program}
use Rattle.px_terms.specs.Typing.{in_body}
use Rattle.px_terms.specs.TypedPrograms.{own_context}
use Rattle.px_types.specs.declared.ends.TypeEnd.{TypeEnd}
use Rattle.px_types.specs.Faults.{Broken, Env}
use Rattle.px_types.specs.Answers.{EndsAs, Answers}
use Rattle.px_types.specs.Outcomes.{onward}
use Rattle.px_types.specs.Outcome.{tys_found, ty_found, part_found, part_of}
use Rattle.px_types.specs.Declarations.{with_definition, without_body, body_env}
use Rattle.px_types.specs.Written.{props_of}
use Rattle.px_types.specs.NextOutcome.{fn_type_found, fn_types_found, heading_found, assumed_found, props_found, signature_found, body_found}
use Rattle.px_types.specs.Checkings.{own_env, with_whole}
use Rattle.px_types.proofs.Stages.{stage, stage_fails}

-- a function type, by its parts
pub fn_type_ok : (P : Program) (tparams : ℕ) (raw : RawFnType) (params : List Ty) (given : Ty) (props : List RawProp) (set : PropSet) →
    tys_found P tparams raw.params ≡ Ok params → ty_found P tparams raw.result ≡ Ok given → props ≡ raw.props → set ≡ set_of (props_of props) →
    fn_type_found P tparams raw ≡ Ok (record { params = params; result = given; props = set })
unfolding fn_type_found
fn_type_ok P tparams raw params given props set are is same set_is =
    stage (ty_found P tparams raw.result) (λ (T : Ty). Ok (record { params = params; result = T; props = set_of (props_of raw.props) }))
    (stage (tys_found P tparams raw.params) (λ (ps : List Ty). onward (ty_found P tparams raw.result)
    (λ (T : Ty). Ok (record { params = ps; result = T; props = set_of (props_of raw.props) }))) refl params are) given is
    ∙ ap (λ (s : PropSet). Ok (record { params = params; result = given; props = s })) (sym (set_is ∙ ap (λ (xs : List RawProp). set_of (props_of xs)) same))

-- the heading of a definition, by its parts
module _ (P : Program) (d : RawDef) where
  heading_is : heading_found P d ≡ onward (fn_types_found P d.tparams d.funs) (λ (funs : List FnType). onward (tys_found P d.tparams d.params)
      (λ (params : List Ty). onward (ty_found P d.tparams d.result) (λ (given : Ty). Ok (record {
        tparams = d.tparams;
        funs = funs;
        params = params;
        result =
            given;
        body = term.Lit 0;
        seen = length P.declared;
      }))))
  unfolding heading_found
  heading_is = refl

  pub heading_funs : (end : TypeEnd) → EndsAs (fn_types_found P d.tparams d.funs) end → EndsAs (heading_found P d) end
  heading_funs end h = stage_fails _ _ _ heading_is end h

  module _ (funs : List FnType) (funs_are : fn_types_found P d.tparams d.funs ≡ Ok funs) where
    pub heading_params : (end : TypeEnd) → EndsAs (tys_found P d.tparams d.params) end → EndsAs (heading_found P d) end
    heading_params end h = stage_fails _ _ _ (stage _ _ heading_is funs funs_are) end h

    module _ (params : List Ty) (params_are : tys_found P d.tparams d.params ≡ Ok params) where
      pub heading_result : (end : TypeEnd) → EndsAs (ty_found P d.tparams d.result) end → EndsAs (heading_found P d) end
      heading_result end h = stage_fails _ _ _ (stage _ _ (stage _ _ heading_is funs funs_are) params params_are) end h

      pub heading_ok : (given : Ty) (seen : ℕ) → ty_found P d.tparams d.result ≡ Ok given → seen ≡ length P.declared →
          heading_found P d ≡ Ok (record { tparams = d.tparams; funs = funs; params = params; result = given; body = term.Lit 0; seen = seen })
      heading_ok given seen is here =
          stage _ _ (stage _ _ (stage _ _ heading_is funs funs_are) params params_are) given is
          ∙ ap (λ (n : ℕ). Ok (record { tparams = d.tparams; funs = funs; params = params; result = given; body = term.Lit 0; seen = n })) (sym here)

-- what a heading has, besides the types
pub record IsHeading (P : Program) (D : definition.Def) : Type 0 where
  pub body : D.body ≡ term.Lit 0
  pub seen : D.seen ≡ length P.declared

heading_parts : (P : Program) (d : RawDef) (D : definition.Def) (funs : Result (List FnType) Broken) (params : Result (List Ty) Broken)
    (given : Result Ty Broken) →
    onward funs (λ fs. onward params (λ ps. onward given (λ T. Ok (record {
      tparams = d.tparams;
      funs = fs;
      params = ps;
      result = T;
      body = term.Lit 0;
      seen =
          length P.declared;
    })))) ≡ Ok D → IsHeading P D
unfolding onward
heading_parts P d D (Ok fs) (Ok ps) (Ok T) e = record {
  body = ap (λ (E : definition.Def). E.body) (sym (one_ok e));
  seen = ap (λ (E : definition.Def). E.seen) (sym (one_ok e));
}
  where
    one_ok : {A : Type 0} {x y : A} → ◌≡◌ {A = Result A Broken} (Ok x) (Ok y) → x ≡ y
    one_ok e = cc
heading_parts P d D (Ok fs) (Ok ps) (Err b) e = absurd cc
heading_parts P d D (Ok fs) (Err b) given e = absurd cc
heading_parts P d D (Err b) params given e = absurd cc

pub is_heading : (P : Program) (d : RawDef) (D : definition.Def) → heading_found P d ≡ Ok D → IsHeading P D
unfolding heading_found
is_heading P d D e = heading_parts P d D (fn_types_found P d.tparams d.funs) (tys_found P d.tparams d.params) (ty_found P d.tparams d.result) e

-- an item that is put at the end, and taken off again
pub put_back : (P : Program) (defs after : List definition.Def) (D last : definition.Def) → defs ≡ P.defs ++ D ∷ [] → defs ≡ after ++ last ∷ [] →
    record P { defs = after } ≡ P
put_back P defs after D last e f =
    ap (λ (xs : List definition.Def). record P { defs = xs }) (sym (same_from_push P.defs after D last (sym e ∙ f)).0)

pub same_last : {X : Type 0} (xs all after : List X) (x last : X) → all ≡ xs ++ x ∷ [] → all ≡ after ++ last ∷ [] → last ≡ x
same_last xs all after x last e f = sym (same_from_push xs after x last (sym e ∙ f)).1

-- the list is not empty
pub some_pushed : {X : Type 0} (xs all : List X) (x : X) → all ≡ xs ++ x ∷ [] → 0 < length all
some_pushed xs all x e =
    let h : length all ≡ length (xs ++ x ∷ []) = ap (λ (ys : List _). length ys) e in
    omega (arith, length-append xs (x ∷ []))

module _ (P : Program) (d : RawDef) where
  -- a signature, where the heading is right
  signature_is : (D : definition.Def) → heading_found P d ≡ Ok D →
      signature_found P d ≡ onward (assumed_found P D.funs 0 d.funs) (λ (_ : Unit {0}). props_found (with_definition P D) [] (Def (length P.defs)) d.props)
  unfolding signature_found
  signature_is D is =
      stage (heading_found P d) (λ (D : definition.Def). onward (assumed_found P D.funs 0 d.funs) (λ (_ : Unit {0}). props_found (with_definition P D) []
      (Def (length P.defs)) d.props)) refl D is

  pub signature_heading : (end : TypeEnd) → EndsAs (heading_found P d) end → EndsAs (signature_found P d) end
  unfolding signature_found
  signature_heading end h =
      stage_fails (heading_found P d) (λ (D : definition.Def). onward (assumed_found P D.funs 0 d.funs)
      (λ (_ : Unit {0}). props_found (with_definition P D) [] (Def (length P.defs)) d.props)) _ refl end h

  pub signature_assumed : (D : definition.Def) (funs : List FnType) (raws : List RawFnType) (end : TypeEnd) → heading_found P d ≡ Ok D → funs ≡ D.funs →
      raws ≡ d.funs → EndsAs (assumed_found P funs 0 raws) end → EndsAs (signature_found P d) end
  signature_assumed D funs raws end is same_funs same_raws h =
      stage_fails _ _ _ (signature_is D is) end (rw (same_funs, same_raws) at h)

  pub signature_props : (D : definition.Def) (funs : List FnType) (raws : List RawFnType) (done : Unit {0}) (defs : List definition.Def) (own : ℕ)
      (props : List RawProp) (r : Result (Unit {0}) TypeEnd) → heading_found P d ≡ Ok D → funs ≡ D.funs → raws ≡ d.funs →
      assumed_found P funs 0 raws ≡ Ok done → defs ≡ P.defs ++ D ∷ [] → own ≡ length P.defs → props ≡ d.props →
      Answers (props_found (record P { defs = defs }) [] (Def own) props) r → Answers (signature_found P d) r
  signature_props D funs raws done defs own props r is same_funs same_raws assumed pushed number same_props h =
      let here : assumed_found P D.funs 0 d.funs ≡ Ok done = rw (same_funs, same_raws) at assumed in
      let e : signature_found P d ≡ props_found (with_definition P D) [] (Def (length P.defs)) d.props = stage _ _ (signature_is D is) done here in
      subst (λ (o : Result (Unit {0}) Broken). Answers o r) (sym e) (rw (pushed, number, same_props) at h)

  -- a body, where the heading is right
  body_is : (D : definition.Def) → heading_found P d ≡ Ok D →
      body_found P d ≡ onward (part_found (body_env P D) [] (part_of (body_env P D) d.body) D.result)
      (λ (body : Term). Ok (with_whole P d (record D { body = body })))
  unfolding body_found
  body_is D is =
      stage (heading_found P d) (λ (D : definition.Def). onward (part_found (body_env P D) [] (part_of (body_env P D) d.body) D.result)
      (λ (body : Term). Ok (with_whole P d (record D { body = body })))) refl D is

  pub body_heading : (end : TypeEnd) → EndsAs (heading_found P d) end → EndsAs (body_found P d) end
  unfolding body_found
  body_heading end h =
      stage_fails (heading_found P d) (λ (D : definition.Def). onward (part_found (body_env P D) [] (part_of (body_env P D) d.body) D.result)
      (λ (body : Term). Ok (with_whole P d (record D { body = body })))) _ refl end h

  own_is : (D : definition.Def) (defs : List definition.Def) (n : ℕ) → heading_found P d ≡ Ok D → defs ≡ P.defs ++ D ∷ [] → n ≡ length P.defs →
      own_env (record P { defs = defs }) n D ≡ body_env P D
  own_is D defs n is pushed number =
      let e : D ≡ without_body D = λ i. record D { body = (is_heading P d D is).body i } in
      λ i. record {
        program = record P { defs = (pushed ∙ ap (λ (E : definition.Def). P.defs ++ E ∷ []) e) i };
        place = in_body (number i);
        context =
            own_context D;
      }

  own_part : (D : definition.Def) (defs : List definition.Def) (n : ℕ) → heading_found P d ≡ Ok D → defs ≡ P.defs ++ D ∷ [] → n ≡ length P.defs →
      part_found (own_env (record P { defs = defs }) n D) [] (part_of (own_env (record P { defs = defs }) n D) d.body) D.result ≡ part_found (body_env P D) []
      (part_of (body_env P D) d.body) D.result
  own_part D defs n is pushed number = ap (λ (E : Env). part_found E [] (part_of E d.body) D.result) (own_is D defs n is pushed number)

  pub body_fails : (D : definition.Def) (defs : List definition.Def) (n : ℕ) (end : TypeEnd) → heading_found P d ≡ Ok D → defs ≡ P.defs ++ D ∷ [] →
      n ≡ length P.defs → EndsAs (part_found (own_env (record P { defs = defs }) n D) [] (part_of (own_env (record P { defs = defs }) n D) d.body) D.result) end
      → EndsAs (body_found P d) end
  body_fails D defs n end is pushed number h =
      stage_fails _ _ _ (body_is D is) end (subst (λ (o : Result Term Broken). EndsAs o end) (own_part D defs n is pushed number) h)

  pub body_ok : (D : definition.Def) (defs after : List definition.Def) (n : ℕ) (last made : definition.Def) (body : Term) → heading_found P d ≡ Ok D →
      defs ≡ P.defs ++ D ∷ [] → n ≡ length P.defs → part_found (own_env (record P { defs = defs }) n D) []
      (part_of (own_env (record P { defs = defs }) n D) d.body) D.result ≡ Ok body → defs ≡ after ++ last ∷ [] → made ≡ record last { body = body } →
      body_found P d ≡ Ok (with_whole P d made)
  body_ok D defs after n last made body is pushed number found popped made_is =
      let same : made ≡ record D { body = body } = made_is ∙ ap (λ (E : definition.Def). record E { body = body })
      (same_last P.defs defs after D last pushed popped) in
      stage _ _ (body_is D is) body (sym (own_part D defs n is pushed number) ∙ found) ∙ ap (λ (E : definition.Def). Ok (with_whole P d E)) (sym same)

-- What is found of a lemma, by the stages of the code.
use Rattle.std.proofs.Common.{◌≡◌, ℕ, Bool, List, [], length, Result, Ok, refl, sym, ◌∙◌, ap, subst}
use Rattle.std.specs.Prelude.{reverse}
use Rattle.px_base.specs.declared.raw.RawEquation.{RawEquation}
use Rattle.px_base.specs.declared.raw.RawLemma.{RawLemma}
use Rattle.px_base.specs.declared.raw.RawFnType.{RawFnType}
use Rattle.px_terms.specs.declared.types.Ty.{Ty}
use Rattle.px_terms.specs.declared.types.FnType.{FnType}
use Rattle.px_terms.specs.declared.term.Term.{Term}
use Rattle.px_terms.specs.declared.clause.Equation.{Equation}
use Rattle.px_terms.specs.declared.program.Program.{Program}
use Rattle.px_terms.specs.Typing.{behind, live}
use Rattle.px_types.specs.declared.ends.TypeEnd.{TypeEnd}
use Rattle.px_types.specs.declared.ends.TypeKind.TheVariants.{Oversize}
use Rattle.px_types.specs.declared.lemmas.Variables.{Variables}
use Rattle.px_types.specs.declared.typed.Typed.{Typed}
use Rattle.px_types.specs.Faults.{Broken, Env}
use Rattle.px_types.specs.Answers.{EndsAs, Answers}
use Rattle.px_types.specs.Outcomes.{onward, needs, each}
use Rattle.px_types.specs.Outcome.{tys_found, term_found, part_found, part_of}
use Rattle.px_types.specs.Declarations.{with_lemma}
use Rattle.px_types.specs.NextOutcome.{Heading, fn_types_found, lemma_heading_found, is_few, assumed_found, variables_found, equation_found, heading_env}
use Rattle.px_types.specs.NextOutcome.{equations_found}
use Rattle.px_types.specs.Checkings.{heading_of}
use Rattle.px_types.proofs.Stages.{stage, stage_fails}

module _ (E : Env) (e : RawEquation) where
  equation_is : equation_found E e ≡ onward (term_found E e.left []) (λ (left : Typed). onward (part_found E [] (part_of E e.right) left.ty)
      (λ (right : Term). Ok (record { left = left.term; right = right })))
  unfolding equation_found
  equation_is = refl

  pub left_fails : (bound : List Ty) (end : TypeEnd) → bound ≡ [] → EndsAs (term_found E e.left (reverse bound)) end → EndsAs (equation_found E e) end
  left_fails bound end none h = stage_fails _ _ _ equation_is end (rw none at h)

  left_is : (bound : List Ty) (left : Typed) → bound ≡ [] → term_found E e.left (reverse bound) ≡ Ok left →
      equation_found E e ≡ onward (part_found E [] (part_of E e.right) left.ty) (λ (right : Term). Ok (record { left = left.term; right = right }))
  left_is bound left none is = stage _ _ equation_is left (rw none at is)

  pub right_fails : (bound after : List Ty) (left : Typed) (end : TypeEnd) → bound ≡ [] → after ≡ bound → term_found E e.left (reverse bound) ≡ Ok left →
      EndsAs (part_found E (reverse after) (part_of E e.right) left.ty) end → EndsAs (equation_found E e) end
  right_fails bound after left end none kept is h = stage_fails _ _ _ (left_is bound left none is) end (rw (kept, none) at h)

  pub equation_ok : (bound after : List Ty) (left : Typed) (right : Term) → bound ≡ [] → after ≡ bound → term_found E e.left (reverse bound) ≡ Ok left →
      part_found E (reverse after) (part_of E e.right) left.ty ≡ Ok right → equation_found E e ≡ Ok (record { left = left.term; right = right })
  equation_ok bound after left right none kept is gives = stage _ _ (left_is bound left none is) right (rw (kept, none) at gives)

module _ (P : Program) (l : RawLemma) where
  heading_is : lemma_heading_found P l ≡ onward (fn_types_found P l.tparams l.funs) (λ (funs : List FnType). onward (tys_found P l.tparams l.vars)
      (λ (vars : List Ty). Ok (record { funs = funs; vars = vars })))
  unfolding lemma_heading_found
  heading_is = refl

  pub funs_fail : (end : TypeEnd) → EndsAs (fn_types_found P l.tparams l.funs) end → EndsAs (lemma_heading_found P l) end
  funs_fail end h = stage_fails _ _ _ heading_is end h

  pub vars_fail : (funs : List FnType) (end : TypeEnd) → fn_types_found P l.tparams l.funs ≡ Ok funs → EndsAs (tys_found P l.tparams l.vars) end →
      EndsAs (lemma_heading_found P l) end
  vars_fail funs end is h = stage_fails _ _ _ (stage _ _ heading_is funs is) end h

  pub heading_ok : (funs : List FnType) (vars : List Ty) → fn_types_found P l.tparams l.funs ≡ Ok funs → tys_found P l.tparams l.vars ≡ Ok vars →
      lemma_heading_found P l ≡ Ok (record { funs = funs; vars = vars })
  heading_ok funs vars is are = stage _ _ (stage _ _ heading_is funs is) vars are

  variables_is : variables_found P l ≡ onward (needs (is_few l) Oversize l.at) (λ (_ : Unit {0}). onward (lemma_heading_found P l)
      (λ (heading : Heading). assumed_found P heading.funs 0 l.funs))
  unfolding variables_found
  variables_is = refl

  few_is : (few : Bool) (done : Unit {0}) → few ≡ is_few l → needs few Oversize l.at ≡ Ok done →
      variables_found P l ≡ onward (lemma_heading_found P l) (λ (heading : Heading). assumed_found P heading.funs 0 l.funs)
  few_is few done same is = stage _ _ variables_is done (rw same at is)

  pub few_fails : (few : Bool) (end : TypeEnd) → few ≡ is_few l → EndsAs (needs few Oversize l.at) end → EndsAs (variables_found P l) end
  few_fails few end same h = stage_fails _ _ _ variables_is end (rw same at h)

  pub heading_fails : (few : Bool) (done : Unit {0}) (end : TypeEnd) → few ≡ is_few l → needs few Oversize l.at ≡ Ok done →
      EndsAs (lemma_heading_found P l) end → EndsAs (variables_found P l) end
  heading_fails few done end same is h = stage_fails _ _ _ (few_is few done same is) end h

  pub assumed_answers : (few : Bool) (done : Unit {0}) (heading : Heading) (funs : List FnType) (raws : List RawFnType) (r : Result (Unit {0}) TypeEnd) →
      few ≡ is_few l → needs few Oversize l.at ≡ Ok done → lemma_heading_found P l ≡ Ok heading → funs ≡ heading.funs → raws ≡ l.funs →
      Answers (assumed_found P funs 0 raws) r → Answers (variables_found P l) r
  assumed_answers few done heading funs raws r same is are same_funs same_raws h =
      let e : variables_found P l ≡ assumed_found P heading.funs 0 l.funs = stage _ _ (few_is few done same is) heading are in
      subst (λ (o : Result (Unit {0}) Broken). Answers o r) (sym e) (rw (same_funs, same_raws) at h)

  -- where the equations stand, behind so many obligations
  abbrev pub stands : Variables → ℕ → Env
  stands v count = record { program = P; place = behind count; context = record { tparams = l.tparams; funs = v.funs; vars = live v.vars } }

  equations_is : equations_found P l ≡ onward (lemma_heading_found P l) (λ (heading : Heading). onward
      (each (equation_found (heading_env P l.tparams heading)) l.premises) (λ (premises : List Equation). onward
      (equation_found (heading_env P l.tparams heading) l.conclusion) (λ (conclusion : Equation). Ok (with_lemma P
      (record { tparams = l.tparams; funs = heading.funs; vars = heading.vars; premises = premises; conclusion = conclusion })))))
  unfolding equations_found
  equations_is = refl

  pub equations_heading : (end : TypeEnd) → EndsAs (lemma_heading_found P l) end → EndsAs (equations_found P l) end
  equations_heading end h = stage_fails _ _ _ equations_is end h

  module _ (v : Variables) (count : ℕ) (is : lemma_heading_found P l ≡ Ok (heading_of v)) (here : count ≡ length P.declared) where
    stands_is : stands v count ≡ heading_env P l.tparams (heading_of v)
    stands_is = λ i. record { program = P; place = behind (here i); context = record { tparams = l.tparams; funs = v.funs; vars = live v.vars } }

    premises_is : equations_found P l ≡ onward (each (equation_found (stands v count)) l.premises) (λ (premises : List Equation). onward
        (equation_found (stands v count) l.conclusion) (λ (conclusion : Equation). Ok (with_lemma P (record
        { tparams = l.tparams; funs = v.funs; vars = v.vars; premises = premises; conclusion = conclusion }))))
    premises_is =
        stage _ _ equations_is (heading_of v) is
        ∙ ap (λ (E : Env). onward (each (equation_found E) l.premises) (λ (premises : List Equation). onward (equation_found E l.conclusion)
        (λ (conclusion : Equation). Ok (with_lemma P (record {
          tparams = l.tparams;
          funs = v.funs;
          vars = v.vars;
          premises = premises;
          conclusion =
              conclusion;
        }))))) (sym stands_is)

    pub premises_fail : (end : TypeEnd) → EndsAs (each (equation_found (stands v count)) l.premises) end → EndsAs (equations_found P l) end
    premises_fail end h = stage_fails _ _ _ premises_is end h

    pub conclusion_fails : (premises : List Equation) (end : TypeEnd) → each (equation_found (stands v count)) l.premises ≡ Ok premises →
        EndsAs (equation_found (stands v count) l.conclusion) end → EndsAs (equations_found P l) end
    conclusion_fails premises end are h = stage_fails _ _ _ (stage _ _ premises_is premises are) end h

    pub lemma_ok : (premises : List Equation) (conclusion : Equation) → each (equation_found (stands v count)) l.premises ≡ Ok premises →
        equation_found (stands v count) l.conclusion ≡ Ok conclusion →
        equations_found P l ≡ Ok (with_lemma P (record { tparams = l.tparams; funs = v.funs; vars = v.vars; premises = premises; conclusion = conclusion }))
    lemma_ok premises conclusion are concludes = stage _ _ (stage _ _ premises_is premises are) conclusion concludes

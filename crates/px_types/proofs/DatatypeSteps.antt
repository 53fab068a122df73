-- What is found of a datatype, by the stages of the code.
use Rattle.std.proofs.Common.{◌≡◌, List, [], ◌∷◌, ◌++◌, Result, Ok, refl, sym, ◌∙◌, ap, subst}
use Rattle.std.proofs.lemmas.List.{same_from_push}
use Rattle.px_base.specs.declared.raw.RawData.{RawData}
use Rattle.px_terms.specs.declared.program.ConDef.{ConDef}
use Rattle.px_terms.specs.declared.program.DataDef.{DataDef}
use Rattle.px_terms.specs.declared.program.Program.{Program}
use Rattle.px_types.specs.declared.ends.TypeEnd.{TypeEnd}
use Rattle.px_types.specs.Faults.{Broken}
use Rattle.px_types.specs.Answers.{EndsAs, Answers}
use Rattle.px_types.specs.Outcomes.{onward, each}
use Rattle.px_types.specs.Declarations.{with_datatype, without_constructors}
use Rattle.px_types.specs.NextOutcome.{constructor_found, datatype_found, checked}
use Rattle.px_types.proofs.Stages.{stage, stage_fails}

-- a datatype that is put at the end, and taken off again
pub datatype_back : (P : Program) (all after : List DataDef) (D last : DataDef) → all ≡ P.datatypes ++ D ∷ [] → all ≡ after ++ last ∷ [] →
    record P { datatypes = after } ≡ P
datatype_back P all after D last e f =
    ap (λ (xs : List DataDef). record P { datatypes = xs }) (sym (same_from_push P.datatypes after D last (sym e ∙ f)).0)

module _ (P : Program) (d : RawData) where
  -- what is found of its constructors
  abbrev pub own_found : Result (List ConDef) Broken
  own_found = each (constructor_found (with_datatype P (without_constructors d)) d.tparams) d.cons

  pub own_answers : (all : List DataDef) (none : List ConDef) (r : Result (List ConDef) TypeEnd) → none ≡ [] →
      all ≡ P.datatypes ++ record { tparams = d.tparams; cons = none } ∷ [] →
      Answers (each (constructor_found (record P { datatypes = all }) d.tparams) d.cons) r → Answers own_found r
  own_answers all none r empty pushed h =
      let e : all ≡ P.datatypes ++ without_constructors d ∷ [] = pushed ∙ ap (λ (cons : List ConDef). P.datatypes ++ record { tparams = d.tparams; cons = cons }
      ∷ []) empty in
      subst (λ (xs : List DataDef). Answers (each (constructor_found (record P { datatypes = xs }) d.tparams) d.cons) r) e h

  whole_is : datatype_found P d ≡ onward own_found (λ (cons : List ConDef). Ok (with_datatype P (record { tparams = d.tparams; cons = cons })))
  unfolding datatype_found
  whole_is = refl

  pub datatype_fails : (end : TypeEnd) → EndsAs own_found end → EndsAs (datatype_found P d) end
  datatype_fails end h = stage_fails _ _ _ whole_is end h

  pub datatype_ok : (cons : List ConDef) → own_found ≡ Ok cons → datatype_found P d ≡ Ok (with_datatype P (record { tparams = d.tparams; cons = cons }))
  datatype_ok cons is = stage _ _ whole_is cons is

  checked_is : checked (datatype_found P d) ≡ onward (datatype_found P d) (λ (_ : Program). Ok tt)
  unfolding checked
  checked_is = refl

  pub check_fails : (end : TypeEnd) → EndsAs own_found end → EndsAs (checked (datatype_found P d)) end
  check_fails end h = stage_fails _ _ _ checked_is end (datatype_fails end h)

  pub check_ok : (cons : List ConDef) → own_found ≡ Ok cons → checked (datatype_found P d) ≡ Ok tt
  check_ok cons is = stage _ _ checked_is _ (datatype_ok cons is)

-- the datatype stands at the end of a program that is as before
pub took_datatype : (P : Program) (d : RawData) (Q : Program) (all : List DataDef) (cons : List ConDef) → own_found P d ≡ Ok cons → Q ≡ P →
    all ≡ Q.datatypes ++ record { tparams = d.tparams; cons = cons } ∷ [] → datatype_found P d ≡ Ok (record Q { datatypes = all })
took_datatype P d Q all cons is same pushed =
    datatype_ok P d cons is ∙ ap Ok (λ i. record (sym same i) {
      datatypes = (ap (λ (R : Program). R.datatypes ++ record { tparams = d.tparams; cons = cons } ∷
          []) (sym same) ∙ sym pushed) i;
    })

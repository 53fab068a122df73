use Rattle.std.proofs.Common.{◌≡◌, refl, Some, slice_get, ap, ◌∙◌, All}
use Rattle.px_terms.specs.declared.types.Ty.{Ty}
use Rattle.px_terms.specs.declared.types.Ty.TheVariants as type
use Rattle.px_terms.specs.Sequents.{IsWithinLimits}
use Rattle.px_terms.specs.Rows.{AreCases, cases_from}
use Rattle.px_cases.proofs.CaseLemmas.{cases_are}
use Rattle.px_cases.proofs.EndLemmas.{right_only, right_oversize}
use Rattle.px_cases.proofs.variables.split_variable.Goals as goal

pub returns-clause-only : goal.returns-clause-only
returns-clause-only c =
    let typed : slice_get c.args.sequent.now.context.vars c.args.variable ≡ Some (Some (type.Con c.in-Some-data_of.family.number c.in-Some-data_of.family.args.now)) = c.in-Some.ensures ∙ ap (λ (T : Ty). Some (Some T)) c.in-Some-data_of.ensures.0 in
    let declared : slice_get c.args.checked.now.datatypes c.in-Some-data_of.family.number ≡ Some c.in-Some-data_of.family.declaration.now = rw c.program.ensures.same at c.in-Some-data_of.ensures.1 in
    let all = cases_from c.args.sequent.now c.args.variable c.in-Some-data_of.family.number c.in-Some-data_of.family.args.now 0 c.in-Some-data_of.family.declaration.now.cons in
    right_only (AreCases c.args.checked.now c.args.sequent.now c.args.variable) (All IsWithinLimits) all c.cases.result (cases_are c.args.checked.now c.args.sequent.now c.args.variable c.in-Some-data_of.family.number c.in-Some-data_of.family.args.now c.in-Some-data_of.family.declaration.now typed declared) c.cases.ensures.cases c.cases.ensures.end

pub returns-clause-oversize : goal.returns-clause-oversize
returns-clause-oversize c =
    let typed : slice_get c.args.sequent.now.context.vars c.args.variable ≡ Some (Some (type.Con c.in-Some-data_of.family.number c.in-Some-data_of.family.args.now)) = c.in-Some.ensures ∙ ap (λ (T : Ty). Some (Some T)) c.in-Some-data_of.ensures.0 in
    let declared : slice_get c.args.checked.now.datatypes c.in-Some-data_of.family.number ≡ Some c.in-Some-data_of.family.declaration.now = rw c.program.ensures.same at c.in-Some-data_of.ensures.1 in
    let all = cases_from c.args.sequent.now c.args.variable c.in-Some-data_of.family.number c.in-Some-data_of.family.args.now 0 c.in-Some-data_of.family.declaration.now.cons in
    right_oversize (AreCases c.args.checked.now c.args.sequent.now c.args.variable) (All IsWithinLimits) all c.cases.result (record { datatype = c.in-Some-data_of.family.number; args = c.in-Some-data_of.family.args.now; declared = c.in-Some-data_of.family.declaration.now; live_at = typed; stands = declared; are = refl }) c.cases.ensures.end

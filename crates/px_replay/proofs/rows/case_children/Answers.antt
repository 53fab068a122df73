use Rattle.px_replay.proofs.Results.{still_ends}
use Rattle.px_replay.proofs.Openings.{HasCases}
use Rattle.px_replay.proofs.RowLemmas.{cases_left, cases_due}
use Rattle.px_replay.proofs.rows.case_children.Goals as goal

pub returns-clause-leaves : goal.returns-clause-leaves
returns-clause-leaves c = cases_left c.args.all.now c.checked.result.now c.args.number c.args.sequent.now c.args.variable c.in_ok-split_variable.field-0 c.checked.ensures.same c.in_ok-split_variable.ensures.ok

pub returns-in_err-split_variable-clause-only : goal.returns-in_err-split_variable-clause-only
returns-in_err-split_variable-clause-only c = λ children opens.
    let to : HasCases c.checked.result.now c.args.sequent.now c.args.variable = cases_due c.args.all.now c.checked.result.now c.args.number c.args.sequent.now c.args.variable children c.checked.ensures.same opens in
    let why = c.in_err-split_variable.ensures.only to.children to.cases to.small in
    still_ends c.from_residual.result _ _ c.from_residual.ensures (λ e gives. gives why)

use Rattle.px_replay.proofs.Results.{still_ends}
use Rattle.px_replay.proofs.Openings.{HasTermCases}
use Rattle.px_replay.proofs.RowLemmas.{term_cases_left, term_cases_due}
use Rattle.px_replay.proofs.rows.split_children.Goals as goal

pub returns-clause-leaves : goal.returns-clause-leaves
returns-clause-leaves c = term_cases_left c.args.all.now c.checked.result.now c.args.number c.args.sequent c.args.term.now c.in_ok-split_term.field-0 c.checked.ensures.same c.requires c.in_ok-split_term.ensures.ok

pub returns-in_err-split_term-clause-only : goal.returns-in_err-split_term-clause-only
returns-in_err-split_term-clause-only c = λ children opens.
    let to : HasTermCases c.checked.result.now c.args.sequent c.args.term.now = term_cases_due c.args.all.now c.checked.result.now c.args.number c.args.sequent c.args.term.now children c.checked.ensures.same opens in
    let why = c.in_err-split_term.ensures.only to.children to.cases to.small in
    still_ends c.from_residual.result _ _ c.from_residual.ensures (λ e gives. gives why)

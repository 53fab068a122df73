use Rattle.px_terms.specs.declared.row.Row.TheVariants as row
use Rattle.px_replay.proofs.Results.{still_ends}
use Rattle.px_replay.proofs.Openings.{Injects, needs}
use Rattle.px_replay.proofs.RowLemmas.{injected_left}
use Rattle.px_replay.proofs.rows.inject_children.Goals as goal

pub returns-clause-leaves : goal.returns-clause-leaves
returns-clause-leaves c = injected_left c.args.all.now c.args.number c.args.sequent c.args.fact c.in_ok-child.child c.in_ok-single.field-0 c.in_ok-single.ensures c.in_ok-child.ensures.ok

pub returns-in_err-child-clause-only : goal.returns-in_err-child-clause-only
returns-in_err-child-clause-only c = λ children opens.
    let to : Injects c.args.sequent c.args.fact = needs c.args.all.now c.args.number c.args.sequent (row.Inject c.args.fact) children opens in
    let why = c.in_err-child.ensures.only to.child to.injected to.small in
    still_ends c.from_residual.result _ _ c.from_residual.ensures (λ e gives. gives why)

pub returns-in_err-single-clause-only : goal.returns-in_err-single-clause-only
returns-in_err-single-clause-only c = λ children opens. still_ends c.from_residual-in_err-single.result _ _ c.from_residual-in_err-single.ensures (λ e same. same)

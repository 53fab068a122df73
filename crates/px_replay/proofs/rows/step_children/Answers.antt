use Rattle.std.proofs.Common.{◌∙◌}
use Rattle.px_terms.specs.declared.row.Row.TheVariants as row
use Rattle.px_replay.proofs.Results.{still_ends}
use Rattle.px_replay.proofs.RowLemmas.{step_left, opens_so}
use Rattle.px_replay.proofs.rows.step_children.Goals as goal

pub returns-clause-leaves : goal.returns-clause-leaves
returns-clause-leaves c = step_left c.args.all.now c.checked.result.now c.args.number c.args.top.sequent (row.Step c.args.target c.args.path.now c.args.kind) c.in_ok-child.child c.in_ok-single.field-0 c.checked.ensures.same c.in_ok-single.ensures c.in_ok-child.ensures.opens c.in_ok-child.ensures.small

pub returns-in_err-child-clause-only : goal.returns-in_err-child-clause-only
returns-in_err-child-clause-only c = λ children opens.
    let why = c.in_err-child.ensures.only c.args.number children (opens_so c.args.all.now c.checked.result.now c.args.number c.args.top.sequent (row.Step c.args.target c.args.path.now c.args.kind) children c.checked.ensures.same opens) in
    still_ends c.from_residual.result _ _ c.from_residual.ensures (λ e same. same ∙ why)

pub returns-in_err-single-clause-only : goal.returns-in_err-single-clause-only
returns-in_err-single-clause-only c = λ children opens. still_ends c.from_residual-in_err-single.result _ _ c.from_residual-in_err-single.ensures (λ e same. same)

use Rattle.std.proofs.Common.{sym}
use Rattle.px_replay.proofs.Results.{passed_on}
use Rattle.px_replay.proofs.StepLemmas.{step_found, step_due}
use Rattle.px_replay.proofs.steps.step_side.Goals as goal

pub returns-clause-steps : goal.returns-clause-steps
returns-clause-steps c = step_found c.args.checked.now c.args.facts.now c.args.equations.now c.args.place.0 c.args.place.1 c.args.path.now c.args.kind c.in-Some.equation.now c.term_of-term.result.now c.in_ok-step.field-0 (sym c.in-Some.ensures) c.term_of-term.ensures c.in_ok-step.ensures.ok

pub returns-clause-only : goal.returns-clause-only
returns-clause-only c = λ t steps. c.in_ok-step.ensures.only t (step_due c.args.checked.now c.args.facts.now c.args.equations.now c.args.place.0 c.args.place.1 c.args.path.now c.args.kind c.in-Some.equation.now c.term_of-term.result.now t (sym c.in-Some.ensures) c.term_of-term.ensures steps)

pub returns-in_err-step-clause-only : goal.returns-in_err-step-clause-only
returns-in_err-step-clause-only c = λ t steps.
    let why = c.in_err-step.ensures.only t (step_due c.args.checked.now c.args.facts.now c.args.equations.now c.args.place.0 c.args.place.1 c.args.path.now c.args.kind c.in-Some.equation.now c.term_of-term.result.now t (sym c.in-Some.ensures) c.term_of-term.ensures steps) in
    passed_on c.from_residual.result _ _ _ c.from_residual.ensures (λ e gives. gives why)

use Rattle.px_types.specs.Checkings.{heading_of}
use Rattle.px_types.proofs.Stages.{end_is}
use Rattle.px_types.proofs.EquationSteps.{few_fails, heading_fails, assumed_answers}
use Rattle.px_types.proofs.lemmas.check_variables.Goals as goal

pub returns-in_err-need : goal.returns-in_err-need
returns-in_err-need c =
    end_is _ c.from_residual.result c.in_err-need.field-0.0 c.from_residual.ensures.1 (few_fails c.args.program.now c.args.raw.now c.has_few.result
    c.in_err-need.field-0.0 c.has_few.ensures c.in_err-need.ensures)

pub returns-in_err-variables : goal.returns-in_err-variables
returns-in_err-variables c =
    end_is _ c.from_residual-in_err-variables.result c.in_err-variables.field-0.0 c.from_residual-in_err-variables.ensures.1
    (heading_fails c.args.program.now c.args.raw.now c.has_few.result c.in_ok-need.field-0 c.in_err-variables.field-0.0 c.has_few.ensures c.in_ok-need.ensures
    c.in_err-variables.ensures)

pub returns : goal.returns
returns c =
    assumed_answers c.args.program.now c.args.raw.now c.has_few.result c.in_ok-need.field-0 (heading_of c.in_ok-variables.variables) c.as_slice.result.now
    c.as_slice-2.result.now c.check_assumed.result c.has_few.ensures c.in_ok-need.ensures c.in_ok-variables.ensures c.as_slice.ensures c.as_slice-2.ensures
    c.check_assumed.ensures

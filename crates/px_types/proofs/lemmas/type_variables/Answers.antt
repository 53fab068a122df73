use Rattle.px_types.proofs.EndSteps.{ends_as}
use Rattle.px_types.proofs.EquationSteps.{funs_fail, vars_fail, heading_ok}
use Rattle.px_types.proofs.lemmas.type_variables.Goals as goal

pub returns-in_err-funs : goal.returns-in_err-funs
returns-in_err-funs c =
    ends_as _ _ c.from_residual.result c.in_err-funs.field-0.0 c.from_residual.ensures.1 (funs_fail c.args.program.now c.args.raw.now c.in_err-funs.field-0.0
    c.in_err-funs.ensures)

pub returns-in_err-vars : goal.returns-in_err-vars
returns-in_err-vars c =
    ends_as _ _ c.from_residual-in_err-vars.result c.in_err-vars.field-0.0 c.from_residual-in_err-vars.ensures.1
    (vars_fail c.args.program.now c.args.raw.now c.in_ok-funs.funs c.in_err-vars.field-0.0 c.in_ok-funs.ensures c.in_err-vars.ensures)

pub returns : goal.returns
returns c = heading_ok c.args.program.now c.args.raw.now c.in_ok-funs.funs c.in_ok-vars.vars c.in_ok-funs.ensures c.in_ok-vars.ensures

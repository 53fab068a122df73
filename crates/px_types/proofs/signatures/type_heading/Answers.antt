use Rattle.px_types.proofs.Stages.{end_is}
use Rattle.px_types.proofs.Headings.{heading_funs, heading_params, heading_result, heading_ok}
use Rattle.px_types.proofs.signatures.type_heading.Goals as goal

pub returns-in_err-funs : goal.returns-in_err-funs
returns-in_err-funs c =
    end_is _ c.from_residual.result c.in_err-funs.field-0.0 c.from_residual.ensures.1 (heading_funs c.args.program.now c.args.raw.now c.in_err-funs.field-0.0
    c.in_err-funs.ensures)

pub returns-in_err-params : goal.returns-in_err-params
returns-in_err-params c =
    end_is _ c.from_residual-in_err-params.result c.in_err-params.field-0.0 c.from_residual-in_err-params.ensures.1
    (heading_params c.args.program.now c.args.raw.now c.in_ok-funs.funs c.in_ok-funs.ensures c.in_err-params.field-0.0 c.in_err-params.ensures)

pub returns-in_err-given : goal.returns-in_err-given
returns-in_err-given c =
    end_is _ c.from_residual-in_err-given.result c.in_err-given.field-0.0 c.from_residual-in_err-given.ensures.1
    (heading_result c.args.program.now c.args.raw.now c.in_ok-funs.funs c.in_ok-funs.ensures c.in_ok-params.params c.in_ok-params.ensures
    c.in_err-given.field-0.0 c.in_err-given.ensures)

pub returns : goal.returns
returns c =
    heading_ok c.args.program.now c.args.raw.now c.in_ok-funs.funs c.in_ok-funs.ensures c.in_ok-params.params c.in_ok-params.ensures c.in_ok-given.given
    c.len.result c.in_ok-given.ensures c.len.ensures

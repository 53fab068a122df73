use Rattle.px_types.proofs.DatatypeSteps.{check_fails, check_ok}
use Rattle.px_types.proofs.Stages.{end_is}
use Rattle.px_types.proofs.datatypes.check_datatype.Goals as goal

pub returns-in_err-type_own-clause-answers : goal.returns-in_err-type_own-clause-answers
returns-in_err-type_own-clause-answers c =
    end_is _ c.from_residual.result c.in_err-type_own.field-0.0 c.from_residual.ensures.1 (check_fails c.args.program.now c.args.raw.now
    c.in_err-type_own.field-0.0 c.in_err-type_own.ensures.answers)

pub returns-clause-answers : goal.returns-clause-answers
returns-clause-answers c = check_ok c.args.program.now c.args.raw.now c.in_ok-type_own.field-0 c.in_ok-type_own.ensures.answers

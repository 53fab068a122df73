use Rattle.px_types.proofs.DatatypeSteps.{datatype_fails, took_datatype}
use Rattle.px_types.proofs.EndSteps.{ends_as}
use Rattle.px_types.proofs.datatypes.take_datatype.Goals as goal

pub returns-in_err-cons-clause-answers : goal.returns-in_err-cons-clause-answers
returns-in_err-cons-clause-answers c =
    ends_as _ _ c.from_residual.result c.in_err-cons.field-0.0 c.from_residual.ensures.1 (datatype_fails c.args.program.now c.args.raw.now
    c.in_err-cons.field-0.0 c.in_err-cons.ensures.answers)

pub returns-clause-answers : goal.returns-clause-answers
returns-clause-answers c =
    took_datatype c.args.program.now c.args.raw.now c.type_own.new.program c.push.new.self c.in_ok-cons.cons c.in_ok-cons.ensures.answers
    c.in_ok-cons.ensures.same c.in_ok-push.ensures.ok

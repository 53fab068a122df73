use Rattle.px_descent.proofs.Ending.{named_passed, names_first, none_around}
use Rattle.px_descent.proofs.descent.check_definition.Goals as goal

pub returns-in_err-pass-clause-first : goal.returns-in_err-pass-clause-first
returns-in_err-pass-clause-first c =
    named_passed c.args.program.now c.args.def c.args.definition.now c.from_residual.result c.in_err-pass.field-0.0 c.from_residual.ensures.1
    (names_first _ _ (rw none_around at c.in_err-pass.ensures))

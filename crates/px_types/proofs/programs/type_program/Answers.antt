use Rattle.px_types.proofs.Stages.{end_is}
use Rattle.px_types.proofs.OrderSteps.{program_fails, program_ok}
use Rattle.px_types.proofs.programs.type_program.Goals as goal

pub returns-in_err-checking : goal.returns-in_err-checking
returns-in_err-checking c =
    end_is _ c.from_residual.result c.in_err-checking.field-0.0 c.from_residual.ensures.1 (program_fails c.args.raw c.in_err-checking.field-0.0
    c.in_err-checking.ensures)

pub returns : goal.returns
returns c = program_ok c.args.raw c.in_ok-checking.checking c.finish.result c.in_ok-checking.ensures c.finish.ensures

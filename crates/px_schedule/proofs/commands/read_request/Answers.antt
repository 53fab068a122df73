use Rattle.std.specs.Prelude.{Some}
use Rattle.px_schedule.proofs.CommandFacts.{no_space, line_said}
use Rattle.px_schedule.proofs.commands.read_request.Goals as goal

pub returns-in_err-fields : goal.returns-in_err-fields
returns-in_err-fields c = rw c.from_residual.ensures (λ n command is. no_space c.args.line.now c.in_err-fields.ensures (Some n) command is)

pub returns : goal.returns
returns c = line_said _ _ _ c.in_ok-fields.ensures c.read_fields.result c.read_fields.ensures

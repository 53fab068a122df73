use Rattle.px_schedule.proofs.CommandFacts.{update_space, update_number}
use Rattle.px_schedule.proofs.commands.read_update.Goals as goal

pub returns-in_err-fields : goal.returns-in_err-fields
returns-in_err-fields c = rw c.from_residual.ensures (update_space c.args.fields.now c.in_err-fields.ensures)

pub returns-in_err-number_of : goal.returns-in_err-number_of
returns-in_err-number_of c = rw c.from_residual-in_err-number_of.ensures (update_number _ _ _ c.in_ok-fields.ensures c.in_err-number_of.ensures)

use Rattle.px_schedule.proofs.CommandFacts.{deliver_space, deliver_message, deliver_replica}
use Rattle.px_schedule.proofs.commands.read_deliver.Goals as goal

pub returns-in_err-fields : goal.returns-in_err-fields
returns-in_err-fields c = rw c.from_residual.ensures (deliver_space c.args.fields.now c.in_err-fields.ensures)

pub returns-in_err-number_of : goal.returns-in_err-number_of
returns-in_err-number_of c = rw c.from_residual-in_err-number_of.ensures (deliver_message _ _ _ c.in_ok-fields.ensures c.in_err-number_of.ensures)

pub returns-in_err-number_of-2 : goal.returns-in_err-number_of-2
returns-in_err-number_of-2 c = rw c.from_residual-in_err-number_of-2.ensures (deliver_replica _ _ _ c.in_ok-fields.ensures c.in_err-number_of-2.ensures)

use Rattle.px_schedule.proofs.LineFacts.{one_fault_by}
use Rattle.px_schedule.proofs.schedule_laws.one_fault.Goals as goal

pub returns : goal.returns
returns c = one_fault_by c.one_value.ensures

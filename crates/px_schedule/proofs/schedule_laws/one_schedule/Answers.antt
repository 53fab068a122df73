use Rattle.px_schedule.proofs.LineFacts.{one_schedule_by}
use Rattle.px_schedule.proofs.schedule_laws.one_schedule.Goals as goal

pub returns : goal.returns
returns c = one_schedule_by c.one_value.ensures

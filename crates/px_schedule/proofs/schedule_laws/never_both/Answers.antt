use Rattle.px_schedule.proofs.LineFacts.{never_both_by}
use Rattle.px_schedule.proofs.schedule_laws.never_both.Goals as goal

pub returns : goal.returns
returns c = never_both_by c.one_value.ensures

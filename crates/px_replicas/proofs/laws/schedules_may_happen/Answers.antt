use Rattle.px_replicas.proofs.Scheduled.{schedules_may_happen}
use Rattle.px_replicas.proofs.laws.schedules_may_happen.Goals as goal

pub returns : goal.returns
returns c = schedules_may_happen

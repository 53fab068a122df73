use Rattle.px_schedule.proofs.OneReading.{one_reading}
use Rattle.px_schedule.proofs.value_laws.one_value.Goals as goal

pub returns : goal.returns
returns c = one_reading

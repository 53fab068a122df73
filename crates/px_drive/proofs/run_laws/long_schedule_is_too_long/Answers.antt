use Rattle.px_drive.proofs.RunChances.{long_schedule_is_too_long_law}
use Rattle.px_drive.proofs.run_laws.long_schedule_is_too_long.Goals as goal

pub returns : goal.returns
returns c = long_schedule_is_too_long_law c.one_source.ensures c.never_both.ensures c.never_rejected.ensures

use Rattle.px_drive.proofs.RunChances.{faulty_is_schedule_law}
use Rattle.px_drive.proofs.run_laws.faulty_is_schedule.Goals as goal

pub returns : goal.returns
returns c = faulty_is_schedule_law c.one_source.ensures c.never_both.ensures c.never_rejected.ensures c.source_is_checked.ensures c.one_fault.ensures c.never_both-2.ensures

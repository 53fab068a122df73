use Rattle.px_drive.proofs.RunCauses.{schedule_is_faulty_law}
use Rattle.px_drive.proofs.run_laws.schedule_is_faulty.Goals as goal

pub returns : goal.returns
returns c = schedule_is_faulty_law

use Rattle.px_drive.proofs.RunCauses.{done_is_run_law}
use Rattle.px_drive.proofs.run_laws.done_is_run.Goals as goal

pub returns : goal.returns
returns c = done_is_run_law

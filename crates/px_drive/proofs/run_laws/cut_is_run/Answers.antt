use Rattle.px_drive.proofs.RunCauses.{cut_is_run_law}
use Rattle.px_drive.proofs.run_laws.cut_is_run.Goals as goal

pub returns : goal.returns
returns c = cut_is_run_law

use Rattle.px_drive.proofs.RunCauses.{run_is_refused_law}
use Rattle.px_drive.proofs.run_laws.run_is_refused.Goals as goal

pub returns : goal.returns
returns c = run_is_refused_law c.never_rejected.ensures

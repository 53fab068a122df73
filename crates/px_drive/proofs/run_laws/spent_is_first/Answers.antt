use Rattle.px_drive.proofs.RunCauses.{spent_is_first_law}
use Rattle.px_drive.proofs.run_laws.spent_is_first.Goals as goal

pub returns : goal.returns
returns c = spent_is_first_law

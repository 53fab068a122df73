use Rattle.px_drive.proofs.RunCauses.{too_long_for_run_is_longer_law}
use Rattle.px_drive.proofs.run_laws.too_long_for_run_is_longer.Goals as goal

pub returns : goal.returns
returns c = too_long_for_run_is_longer_law

use Rattle.px_drive.proofs.RunFronts.{cut_is_front_law}
use Rattle.px_drive.proofs.run_laws.cut_is_front.Goals as goal

pub returns : goal.returns
returns c = cut_is_front_law c.one_output.ensures

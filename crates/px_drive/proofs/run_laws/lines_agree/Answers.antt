use Rattle.px_drive.proofs.RunCauses.{lines_agree_law}
use Rattle.px_drive.proofs.run_laws.lines_agree.Goals as goal

pub returns : goal.returns
returns c = lines_agree_law c.one_output.ensures

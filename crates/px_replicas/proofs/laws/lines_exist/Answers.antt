use Rattle.px_replicas.proofs.LinesExist.{lines_exist}
use Rattle.px_replicas.proofs.laws.lines_exist.Goals as goal

pub returns : goal.returns
returns c = lines_exist

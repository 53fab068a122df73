use Rattle.px_replicas.proofs.Outputs.{lines_go_on}
use Rattle.px_replicas.proofs.laws.lines_go_on.Goals as goal

pub returns : goal.returns
returns c = lines_go_on

use Rattle.px_replicas.proofs.LinesExist.{states_exist}
use Rattle.px_replicas.proofs.laws.states_exist.Goals as goal

pub returns : goal.returns
returns c = states_exist

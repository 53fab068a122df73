use Rattle.px_replicas.proofs.Outputs.{one_state}
use Rattle.px_replicas.proofs.laws.one_state.Goals as goal

pub returns : goal.returns
returns c = one_state

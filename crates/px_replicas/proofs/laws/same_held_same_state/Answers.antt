use Rattle.px_replicas.proofs.Outputs.{same_held_same_state}
use Rattle.px_replicas.proofs.laws.same_held_same_state.Goals as goal

pub returns : goal.returns
returns c = same_held_same_state

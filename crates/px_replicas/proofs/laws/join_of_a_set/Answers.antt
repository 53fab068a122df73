use Rattle.px_replicas.proofs.JoinOfSets.{join_of_a_set}
use Rattle.px_replicas.proofs.laws.join_of_a_set.Goals as goal

pub returns : goal.returns
returns c = join_of_a_set

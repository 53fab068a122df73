use Rattle.px_replicas.proofs.Needs.{one_need}
use Rattle.px_replicas.proofs.laws.one_need.Goals as goal

pub returns : goal.returns
returns c = one_need

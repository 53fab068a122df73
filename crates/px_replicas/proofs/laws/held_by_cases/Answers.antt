use Rattle.px_replicas.proofs.HeldCases.{held_by_cases}
use Rattle.px_replicas.proofs.laws.held_by_cases.Goals as goal

pub returns : goal.returns
returns c = held_by_cases

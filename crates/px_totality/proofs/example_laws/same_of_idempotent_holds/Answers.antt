use Rattle.px_totality.proofs.Examples.{same_of_idempotent_holds}
use Rattle.px_totality.proofs.example_laws.same_of_idempotent_holds.Goals as goal

pub returns : goal.returns
returns c = same_of_idempotent_holds

use Rattle.px_totality.proofs.Examples.{same_of_any_fails}
use Rattle.px_totality.proofs.example_laws.same_of_any_fails.Goals as goal

pub returns : goal.returns
returns c = same_of_any_fails

use Rattle.px_totality.proofs.Examples.{empty_holds_of_nothing}
use Rattle.px_totality.proofs.example_laws.empty_holds_of_nothing.Goals as goal

pub returns : goal.returns
returns c = empty_holds_of_nothing

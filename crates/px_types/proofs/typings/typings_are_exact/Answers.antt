use Rattle.px_types.proofs.TypeOfExact.{types_exact}
use Rattle.px_types.proofs.typings.typings_are_exact.Goals as goal

pub returns : goal.returns
returns c = types_exact

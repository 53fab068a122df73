use Rattle.px_totality.proofs.Extensions.{first_is_not_commutative}
use Rattle.px_totality.proofs.example_laws.first_is_not_commutative.Goals as goal

pub returns : goal.returns
returns c = first_is_not_commutative

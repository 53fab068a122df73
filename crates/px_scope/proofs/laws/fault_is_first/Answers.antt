use Rattle.px_scope.proofs.NamesRise.{fault_is_first}
use Rattle.px_scope.proofs.laws.fault_is_first.Goals as goal

pub returns : goal.returns
returns c = fault_is_first

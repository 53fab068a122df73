use Rattle.px_scope.proofs.NamesRise.{names_rise}
use Rattle.px_scope.proofs.laws.names_rise.Goals as goal

pub returns : goal.returns
returns c = names_rise

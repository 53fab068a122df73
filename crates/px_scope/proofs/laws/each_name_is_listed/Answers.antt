use Rattle.px_scope.proofs.NamesRise.{each_name_is_listed}
use Rattle.px_scope.proofs.laws.each_name_is_listed.Goals as goal

pub returns : goal.returns
returns c = each_name_is_listed

use Rattle.px_totality.proofs.EachHasValue.{each_function}
use Rattle.px_totality.proofs.laws.each_function_has_value.Goals as goal

pub returns : goal.returns
returns c = each_function

use Rattle.px_totality.proofs.EachHasValue.{each_call}
use Rattle.px_totality.proofs.laws.each_call_has_value.Goals as goal

pub returns : goal.returns
returns c = each_call

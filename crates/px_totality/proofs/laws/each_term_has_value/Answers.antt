use Rattle.px_totality.proofs.EachHasValue.{each_term}
use Rattle.px_totality.proofs.laws.each_term_has_value.Goals as goal

pub returns : goal.returns
returns c = each_term

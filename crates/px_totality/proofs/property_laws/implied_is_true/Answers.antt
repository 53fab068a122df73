use Rattle.px_totality.proofs.PropertiesHold.{implied_is_true}
use Rattle.px_totality.proofs.property_laws.implied_is_true.Goals as goal

pub returns : goal.returns
returns c = implied_is_true

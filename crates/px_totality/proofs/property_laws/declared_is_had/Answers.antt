use Rattle.px_totality.proofs.Declared.{declared_is_had}
use Rattle.px_totality.proofs.property_laws.declared_is_had.Goals as goal

pub returns : goal.returns
returns c = declared_is_had

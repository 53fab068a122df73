use Rattle.px_totality.proofs.ArgumentsFit.{arguments_fit}
use Rattle.px_totality.proofs.property_laws.arguments_fit.Goals as goal

pub returns : goal.returns
returns c = arguments_fit

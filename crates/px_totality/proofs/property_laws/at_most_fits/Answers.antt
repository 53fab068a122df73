use Rattle.px_totality.proofs.ArgumentsFit.{at_most_fits}
use Rattle.px_totality.proofs.property_laws.at_most_fits.Goals as goal

pub returns : goal.returns
returns c = at_most_fits

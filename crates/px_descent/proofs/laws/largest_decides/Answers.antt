use Rattle.px_descent.proofs.Deciding.{serves_descends, descends_serves}
use Rattle.px_descent.proofs.laws.largest_decides.Goals as goal

pub returns : goal.returns
returns c P n D = (descends_serves P n D, serves_descends P n D)

use Rattle.px_descent.proofs.Deciding.{stuck_excludes}
use Rattle.px_descent.proofs.laws.stuck_excludes_descent.Goals as goal

pub returns : goal.returns
returns c = stuck_excludes

use Rattle.px_descent.proofs.Deciding.{one_first}
use Rattle.px_descent.proofs.laws.one_first_stuck.Goals as goal

pub returns : goal.returns
returns c = one_first

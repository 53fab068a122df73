use Rattle.px_soundness.proofs.Openings.{one_opening}
use Rattle.px_soundness.proofs.laws.one_opening.Goals as goal

pub returns : goal.returns
returns c = one_opening

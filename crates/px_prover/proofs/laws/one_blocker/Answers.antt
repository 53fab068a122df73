use Rattle.px_prover.proofs.OneBlocker.{blocker_one}
use Rattle.px_prover.proofs.laws.one_blocker.Goals as goal

pub returns : goal.returns
returns c P n own b steps alternatives u v one other = blocker_one one other

use Rattle.px_prover.proofs.MoreSplits.{plain_with_more}
use Rattle.px_prover.proofs.laws.more_splits_find_more.Goals as goal

pub returns : goal.returns
returns c P n splits steps p = plain_with_more p

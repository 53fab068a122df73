use Rattle.px_drive.proofs.ReplayEnds.{long_derivation_is_too_long_law}
use Rattle.px_drive.proofs.laws.long_derivation_is_too_long.Goals as goal

pub returns : goal.returns
returns c = long_derivation_is_too_long_law c.one_source.ensures c.never_both.ensures

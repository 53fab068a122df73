use Rattle.std.proofs.Common.{refl}
use Rattle.px_rewrite.proofs.arms.open_arm.Goals as goal

pub returns : goal.returns
returns c = c.open_part.ensures 0 refl

use Rattle.std.proofs.Common.{refl}
use Rattle.px_rewrite.proofs.arm_sizes.size_of_arm.Goals as goal

pub returns : goal.returns
returns c = c.size_of_part.ensures 0 refl

use Rattle.std.proofs.Common.{◌≡◌, length, reverse}
use Rattle.px_types.specs.Outcome.{all_filled}
use Rattle.px_types.proofs.ArmSteps.{with_rest}
use Rattle.px_types.proofs.arms.bodies_of.Given as goal

abbrev pub invariant-loop-slot : goal.invariant-loop-slot
invariant-loop-slot l = with_rest l.bodies (all_filled (reverse l.turned)) ≡ all_filled l.fn.slots

abbrev pub decreases-loop-slot : goal.decreases-loop-slot
decreases-loop-slot l = length l.turned

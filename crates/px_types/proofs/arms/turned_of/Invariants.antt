use Rattle.std.proofs.Common.{◌≡◌, ◌++◌, length, reverse}
use Rattle.px_types.proofs.arms.turned_of.Given as goal

abbrev pub invariant-loop-slot : goal.invariant-loop-slot
invariant-loop-slot l = reverse l.fn.slots ≡ l.turned ++ reverse l.left

abbrev pub decreases-loop-slot : goal.decreases-loop-slot
decreases-loop-slot l = length l.left

use Rattle.std.proofs.Common.{◌≡◌, None, replicate}
use Rattle.px_types.proofs.arms.empty_slots.Given as goal

abbrev pub invariant-loop-number : goal.invariant-loop-number
invariant-loop-number l = l.bodies ≡ replicate l._number None

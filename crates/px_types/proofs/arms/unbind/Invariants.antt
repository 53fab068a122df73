use Rattle.std.proofs.Common.{◌≡◌, ◌-◌, length, take}
use Rattle.px_types.proofs.arms.unbind.Given as goal

abbrev pub invariant-loop-number : goal.invariant-loop-number
invariant-loop-number l = l.bound ≡ take (length l.fn.bound - l._number) l.fn.bound

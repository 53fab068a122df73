use Rattle.std.proofs.Common.{◌≡◌, length, take}
use Rattle.px_types.proofs.lists.keep_first.Given as goal

abbrev pub invariant-kept : goal.invariant-kept
invariant-kept g l = take l.count l.items ≡ take l.count l.initial.items

abbrev pub decreases-kept : goal.decreases-kept
decreases-kept g l = length l.items

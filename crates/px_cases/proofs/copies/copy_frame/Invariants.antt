use Rattle.std.proofs.Common.{◌≡◌, take}
use Rattle.px_cases.proofs.copies.copy_frame.Given as goal

abbrev pub invariant-loop-present : goal.invariant-loop-present
invariant-loop-present l = l.entries ≡ take l.present-index l.frame.entries

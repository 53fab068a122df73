use Rattle.std.proofs.Common.{◌≡◌, take}
use Rattle.px_induct.proofs.frames.copy_frame.Given as goal

abbrev pub invariant-loop-entry : goal.invariant-loop-entry
invariant-loop-entry l = l.entries ≡ take l.entry-index l.frame.entries

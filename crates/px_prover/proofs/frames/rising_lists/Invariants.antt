use Rattle.std.proofs.Common.{◌-◌}
use Rattle.px_prover.proofs.RisingLemmas.{AreRising}
use Rattle.px_prover.proofs.frames.rising_lists.Given as goal

abbrev pub invariant-loop-place : goal.invariant-loop-place
invariant-loop-place l = AreRising (l.count - l.place) l.count l.lists

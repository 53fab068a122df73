use Rattle.px_prover.proofs.DeedLemmas.{NoneSoFar}
use Rattle.px_prover.proofs.deeds.rewritten.Given as goal

abbrev pub invariant-loop-number : goal.invariant-loop-number
invariant-loop-number l = NoneSoFar l.setting l.t l.number

use Rattle.px_prover.proofs.ChoiceLemmas.{AreLonger}
use Rattle.px_prover.proofs.choices.longer_lists.Given as goal

abbrev pub invariant-loop-number : goal.invariant-loop-number
invariant-loop-number l = AreLonger l.number l.lists l.longer

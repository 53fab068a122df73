use Rattle.px_prover.proofs.ChoiceLemmas.{AreLists}
use Rattle.px_prover.proofs.choices.number_lists.Given as goal

abbrev pub invariant-loop-place : goal.invariant-loop-place
invariant-loop-place l = AreLists l.count l._place l.lists

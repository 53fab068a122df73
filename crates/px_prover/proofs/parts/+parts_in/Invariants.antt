use Rattle.px_terms.specs.Terms.{term_size}
use Rattle.px_prover.proofs.StandLemmas.{AreParts}
use Rattle.px_prover.proofs.parts.+parts_in.Given as goal

abbrev pub decreases-parts_in : goal.decreases-parts_in
decreases-parts_in l = term_size l.t.now

abbrev pub invariant-loop-number : goal.invariant-loop-number
invariant-loop-number l = AreParts l.t l.number l.parts

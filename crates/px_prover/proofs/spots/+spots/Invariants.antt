use Rattle.px_terms.specs.Terms.{term_size}
use Rattle.px_prover.proofs.SpotLemmas.{ArePlacesBefore}
use Rattle.px_prover.proofs.spots.+spots.Given as goal

abbrev pub decreases-spots : goal.decreases-spots
decreases-spots l = term_size l.t.now

abbrev pub invariant-loop-number : goal.invariant-loop-number
invariant-loop-number l = ArePlacesBefore l.path l.t l.number l.found

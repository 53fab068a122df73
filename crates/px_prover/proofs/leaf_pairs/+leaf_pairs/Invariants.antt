use Rattle.std.proofs.Common.{◌+◌, ◌*◌}
use Rattle.px_terms.specs.Terms.{term_size, terms_size}
use Rattle.px_prover.proofs.LeafLemmas.{IsSoFar}
use Rattle.px_prover.proofs.leaf_pairs.+leaf_pairs.Given as goal

abbrev pub decreases-leaf_pairs : goal.decreases-leaf_pairs
decreases-leaf_pairs l = 2 * term_size l.left.now

abbrev pub decreases-leaf_pairs_of_fields : goal.decreases-leaf_pairs_of_fields
decreases-leaf_pairs_of_fields l = 2 * terms_size l.fields.now + 1

abbrev pub invariant-leaf_pairs_of_fields-loop-number : goal.invariant-leaf_pairs_of_fields-loop-number
invariant-leaf_pairs_of_fields-loop-number l = IsSoFar l.path l.fields l.parts l.most l.number l.found

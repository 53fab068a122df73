use Rattle.px_prover.proofs.SpotLemmas.{paths_answer}
use Rattle.px_prover.proofs.spots.paths_to.Goals as goal

pub returns : goal.returns
returns c = paths_answer c.args.t.now c.args.part.now c.in_ok-places.places c.as_slice.result.now c.paths_of.result c.in_ok-places.ensures c.as_slice.ensures c.paths_of.ensures

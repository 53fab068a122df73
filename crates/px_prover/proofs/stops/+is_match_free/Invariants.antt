use Rattle.std.proofs.Common.{◌≡◌, take, true}
use Rattle.px_prover.specs.Norms.{are_match_free}
use Rattle.px_prover.proofs.stops.+is_match_free.Given as goal

abbrev pub invariant-are_match_free-loop-t : goal.invariant-are_match_free-loop-t
invariant-are_match_free-loop-t l = are_match_free (take l.t-index l.terms) ≡ true

use Rattle.std.proofs.Common.{◌≡◌, ◌-◌}
use Rattle.px_prover.specs.Norms.{first_stop}
use Rattle.px_prover.specs.Normalising.{stops_of}
use Rattle.px_prover.proofs.stops.first_stop.Given as goal

abbrev pub invariant-loop-number : goal.invariant-loop-number
invariant-loop-number l = first_stop (stops_of l.parts) 0 l.count ≡ first_stop (stops_of l.parts) l.number (l.count - l.number)

use Rattle.std.proofs.Common.{sym, ◌∙◌}
use Rattle.px_prover.specs.Normalising.{stops_of}
use Rattle.px_prover.proofs.StopLemmas.{first_next}
use Rattle.px_prover.proofs.stops.first_stop.Goals as goal

pub loop-number-preserved : goal.loop-number-preserved
loop-number-preserved c = c.loop-number.invariant ∙ first_next (stops_of c.args.parts.now) c.loop-number.number c.args.count c.loop-number-test.true (sym c.in-None.ensures)

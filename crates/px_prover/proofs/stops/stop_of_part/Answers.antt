use Rattle.std.proofs.Common.{sym, ◌∙◌}
use Rattle.px_prover.proofs.StopLemmas.{part_own, part_none}
use Rattle.px_prover.proofs.stops.stop_of_part.Goals as goal

pub returns-in-Some : goal.returns-in-Some
returns-in-Some c = c.as_ref.ensures.value ∙ sym (part_own c.args.parts.now c.args.number c.in-Some.part.now (sym c.in-Some.ensures))

pub returns-in-None : goal.returns-in-None
returns-in-None c = sym (part_none c.args.parts.now c.args.number (sym c.in-None.ensures))

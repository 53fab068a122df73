use Rattle.std.proofs.Common.{length}
use Rattle.px_machine.proofs.FlatSteps.{IsGathered}
use Rattle.px_machine.proofs.flat_value.values_of.Given as goal

abbrev pub invariant-loop-rest : goal.invariant-loop-rest
invariant-loop-rest l = IsGathered l.cells l.rest l.values

abbrev pub decreases-loop-rest : goal.decreases-loop-rest
decreases-loop-rest l = length l.rest

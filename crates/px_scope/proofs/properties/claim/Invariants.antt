use Rattle.std.proofs.Common.{take}
use Rattle.px_scope.proofs.StateSteps.{Reached}
use Rattle.px_scope.proofs.PropertySteps.{with_claim, claim_use}
use Rattle.px_scope.proofs.properties.claim.Given as goal

abbrev pub invariant-loop-prop : goal.invariant-loop-prop
invariant-loop-prop l = Reached with_claim claim_use l.fn.claimed (take l.prop-index l.props) l.claimed

use Rattle.std.proofs.Common.{ap, ◌∙◌}
use Rattle.px_prover.specs.Normalising.{moves_of}
use Rattle.px_prover.proofs.StageLemmas.{moves_with_child}
use Rattle.px_prover.proofs.stages.push_below.Goals as goal

pub returns-in_ok-push : goal.returns-in_ok-push
returns-in_ok-push c = ap moves_of c.in_ok-push.ensures.ok ∙ moves_with_child c.args.stages.now c.args.child c.args.below

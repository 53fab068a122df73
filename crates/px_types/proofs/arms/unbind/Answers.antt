use Rattle.px_types.proofs.ArmSteps.{popped_any}
use Rattle.px_types.proofs.arms.unbind.Goals as goal

pub loop-number-preserved : goal.loop-number-preserved
loop-number-preserved c =
    popped_any c.args.bound.now c.loop-number.bound c.pop-last.new.self c.loop-number._number c.pop-last.result c.pop-last.ensures c.loop-number.invariant

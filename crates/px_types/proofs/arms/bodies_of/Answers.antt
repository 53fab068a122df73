use Rattle.px_types.proofs.ArmSteps.{fill_start, fill_next, fill_fails, fill_end}
use Rattle.px_types.proofs.arms.bodies_of.Goals as goal

pub loop-slot-init : goal.loop-slot-init
loop-slot-init c = fill_start c.args.slots c.in_ok-turned.turned c.new-bodies.result c.in_ok-turned.ensures c.new-bodies.ensures

pub loop-slot-preserved : goal.loop-slot-preserved
loop-slot-preserved c =
    fill_next c.args.slots c.loop-slot.turned c.pop.new.self c.loop-slot.bodies c.push.new.self c.in-Some.slot c.in-Some-slot.body c.in-Some.ensures
    c.in-Some-slot.is c.in_ok-push-in-Some-slot.ensures.ok c.loop-slot.invariant

pub returns-in-None : goal.returns-in-None
returns-in-None c =
    fill_fails c.args.slots c.loop-slot.turned c.pop.new.self c.loop-slot.bodies c.in-Some.slot c.in-Some.ensures c.in-None.is c.loop-slot.invariant

pub returns : goal.returns
returns c = fill_end c.args.slots c.loop-slot.turned c.loop-slot.bodies c.in_default.ensures.0 c.loop-slot.invariant

use Rattle.px_types.specs.declared.ends.TypeKind.TheVariants.{ArmRepeated}
use Rattle.px_types.proofs.ArmSteps.{open_within, need_true}
use Rattle.px_types.proofs.arms.pattern.Goals as goal

pub returns-clause-within : goal.returns-clause-within
returns-clause-within c =
    open_within c.args.slots.now c.args.arm.now.con c.has_no_arm.result c.has_no_arm.ensures
    (need_true c.has_no_arm.result ArmRepeated c.args.arm.now.at c.in_ok-need-2.field-0 c.in_ok-need-2.ensures)

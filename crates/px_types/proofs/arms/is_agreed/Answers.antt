use Rattle.px_types.proofs.ArmSteps.{agrees_is}
use Rattle.px_types.proofs.arms.is_agreed.Goals as goal

pub returns-in-Some : goal.returns-in-Some
returns-in-Some c = rw c.in-Some.is (agrees_is c.in-Some.first c.args.ty.now c.same_ty.result c.same_ty.ensures)

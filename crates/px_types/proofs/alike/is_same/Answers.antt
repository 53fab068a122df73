use Rattle.px_types.proofs.AlikeSteps.{same_is}
use Rattle.px_types.proofs.alike.is_same.Goals as goal

pub returns : goal.returns
returns c = same_is c.args.ty.now c.args.other.now c.same_ty.result c.same_ty.ensures

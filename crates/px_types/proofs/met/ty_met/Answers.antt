use Rattle.px_types.proofs.MetSteps.{met_is}
use Rattle.px_types.proofs.met.ty_met.Goals as goal

pub returns : goal.returns
returns c = met_is c.args.env.now.place c.args.ty.now c.ty_is_within.result c.ty_is_within.ensures

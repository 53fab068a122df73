use Rattle.px_terms.specs.Types.{ty_instance}
use Rattle.px_types.proofs.MetSteps.{met_is}
use Rattle.px_types.proofs.met.instance_met.Goals as goal

pub returns : goal.returns
returns c =
    met_is c.args.env.now.place (ty_instance c.args.types.now c.args.ty.now) c.instance_is_within.result (rw c.as_slice.ensures at c.instance_is_within.ensures)

use Rattle.px_terms.specs.Types.{ty_instance}
use Rattle.px_types.proofs.AlikeSteps.{same_is}
use Rattle.px_types.proofs.alike.is_instance.Goals as goal

pub returns : goal.returns
returns c = same_is c.args.ty.now (ty_instance c.args.types.now c.args.wanted.now) c.becomes.result c.becomes.ensures

use Rattle.px_types.proofs.FitSteps.{prop_answers}
use Rattle.px_types.proofs.signatures.check_prop.Goals as goal

pub returns : goal.returns
returns c = prop_answers c.args.program.now c.args.funs.now c.args.head c.args.written c.fits-fit.result c.need.result c.fits-fit.ensures c.need.ensures

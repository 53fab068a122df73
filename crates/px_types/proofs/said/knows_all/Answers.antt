use Rattle.px_types.specs.Envs.{env_of}
use Rattle.px_types.proofs.SaidSteps.{implied_is, wanted_is}
use Rattle.px_types.proofs.said.knows_all.Goals as goal

pub returns : goal.returns
returns c =
    wanted_is (env_of c.args.env.now) c.args.head c.args.wanted c.implied.result c.is_within.result
    (implied_is (env_of c.args.env.now) c.args.head c.said.result c.implied.result c.said.ensures c.implied.ensures) c.is_within.ensures

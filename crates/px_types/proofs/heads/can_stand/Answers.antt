use Rattle.px_types.specs.Envs.{env_of, counts_in}
use Rattle.px_types.proofs.HeadSteps.{unpassed, no_counts, counted}
use Rattle.px_types.proofs.heads.can_stand.Goals as goal

pub returns-then-not-can_pass : goal.returns-then-not-can_pass
returns-then-not-can_pass c = unpassed (env_of c.args.env.now) c.args.raw.now c.can_pass.result c.can_pass.ensures c.if-not-can_pass.true

pub returns-in-Some : goal.returns-in-Some
returns-in-Some c =
    counted (env_of c.args.env.now) c.args.raw.now c.can_pass.result c.can_pass.ensures c.if-not-can_pass.false (counts_in c.in-Some.taken) c.len.result
    c.in-Some.ensures c.len.ensures

pub returns-in-None : goal.returns-in-None
returns-in-None c = no_counts (env_of c.args.env.now) c.args.raw.now c.can_pass.result c.can_pass.ensures c.if-not-can_pass.false c.in-None.ensures

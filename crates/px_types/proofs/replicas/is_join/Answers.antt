use Rattle.px_types.specs.Envs.{env_of}
use Rattle.px_types.proofs.ReplicaSteps.{joining, not_joining, given_nothing, other_joins_nothing}
use Rattle.px_types.proofs.replicas.is_join.Goals as goal

pub returns-then-joins_states : goal.returns-then-joins_states
returns-then-joins_states c s is =
    joining (env_of c.args.env.now) c.args.head c.args.types.now s is c.requires c.args.state.now c.joins_states.result c.in-Def.number
    c.in-Some.def.now c.knows_all.result c.in-Def.is (rw c.as_slice.ensures at c.in-Some.ensures) c.joins_states.ensures c.knows_all.ensures
    c.if-joins_states.true

pub returns-else-joins_states : goal.returns-else-joins_states
returns-else-joins_states c s is =
    not_joining (env_of c.args.env.now) c.args.head c.args.types.now s is c.requires c.args.state.now c.joins_states.result c.in-Def.number
    c.in-Some.def.now c.in-Def.is (rw c.as_slice.ensures at c.in-Some.ensures) c.joins_states.ensures c.if-joins_states.false

pub returns-in-None : goal.returns-in-None
returns-in-None c s is =
    given_nothing (env_of c.args.env.now) c.args.head c.args.types.now s is c.in-Def.number c.in-Def.is (rw c.as_slice.ensures at c.in-None.ensures)

pub returns-in-Wle : goal.returns-in-Wle
returns-in-Wle c s is = other_joins_nothing (env_of c.args.env.now) c.args.head c.args.types.now s is c.requires c.in-Wle.is c.args.state.now

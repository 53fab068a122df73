use Rattle.px_types.specs.Envs.{env_of}
use Rattle.px_types.proofs.ReplicaSteps.{given_definition, given_nothing, given_other}
use Rattle.px_types.proofs.replicas.type_given.Goals as goal

pub returns-in-Some : goal.returns-in-Some
returns-in-Some c s is =
    given_definition (env_of c.args.env.now) c.args.raw.now.merge.head c.args.types.now s is c.in-Def.number c.in-Some.def.now c.args.raw.now.funs
    c.type_arguments.result c.in-Def.is (rw c.as_slice.ensures at c.in-Some.ensures) c.type_arguments.ensures

pub returns-in-Def : goal.returns-in-Def
returns-in-Def c s is =
    given_nothing (env_of c.args.env.now) c.args.raw.now.merge.head c.args.types.now s is c.in-Def.number c.in-Def.is
    (rw c.as_slice.ensures at c.in-None.ensures)

pub returns : goal.returns
returns c s is =
    given_other (env_of c.args.env.now) c.args.raw.now.merge.head c.args.types.now s is c.new-none.result c.args.raw.now.funs c.type_arguments-in-Wle.result
    c.in-Wle.is c.new-none.ensures c.type_arguments-in-Wle.ensures

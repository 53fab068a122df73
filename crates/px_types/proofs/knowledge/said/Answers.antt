use Rattle.px_types.proofs.TypeOfKnown.{said_of_definition}
use Rattle.px_types.proofs.knowledge.said.Goals as goal

pub returns-in-Def : goal.returns-in-Def
returns-in-Def c = said_of_definition c.args.scope.now.program.now c.args.scope.now.context.now c.declared_of.result c.args.head c.in-Def.number c.in-Def.is
    c.declared_of.ensures

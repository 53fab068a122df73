use Rattle.px_types.proofs.TypeOfKnown.{wanted_none, wanted_all}
use Rattle.px_types.proofs.knowledge.knows_all.Goals as goal

pub returns-then-includes : goal.returns-then-includes
returns-then-includes c = wanted_none c.args.scope.now.program.now c.args.scope.now.context.now c.args.head c.args.wanted c.includes.result c.includes.ensures
    c.if-includes.true

pub returns-else-includes : goal.returns-else-includes
returns-else-includes c = wanted_all c.args.scope.now.program.now c.args.scope.now.context.now c.args.head c.args.wanted c.said.result c.implied.result
    c.includes-else-includes.result c.said.ensures c.implied.ensures c.includes-else-includes.ensures

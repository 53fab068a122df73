use Rattle.std.proofs.Common.{arith}
use Rattle.px_scope.proofs.DeclarationSteps.{functions_next}
use Rattle.px_scope.proofs.declarations.count_functions.Goals as goal

pub loop-param-preserved : goal.loop-param-preserved
loop-param-preserved c = (functions_next c.args.params.now c.loop-param.param-index c.param-item.result c.loop-param.count c.functions_of-count.result c.loop-param-test.true c.param-item.is c.loop-param.invariant.0 c.functions_of-count.ensures.is, omega arith)

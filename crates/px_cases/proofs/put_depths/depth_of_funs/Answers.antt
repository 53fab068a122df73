use Rattle.px_terms.specs.Types.{fun_depth}
use Rattle.px_cases.proofs.put_depths.depth_of_funs.Goals as goal
use Rattle.px_cases.proofs.Largest.{deepest_step}

pub loop-fun-preserved : goal.loop-fun-preserved
loop-fun-preserved c =
    deepest_step fun_depth c.args.funs.now c.loop-fun.fun-index _ c.fun-item.result _ _ _
    c.loop-fun-test.true c.fun-item.is c.loop-fun.invariant c.depth_of_fun.ensures c.max-deepest.ensures

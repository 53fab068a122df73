use Rattle.px_terms.specs.Terms.{term_depth}
use Rattle.px_terms.proofs.depths.+depth.Goals as goal
use Rattle.px_terms.proofs.Largest.{deepest_step}

pub depth_of_terms-loop-t-preserved : goal.depth_of_terms-loop-t-preserved
depth_of_terms-loop-t-preserved t c =
    deepest_step term_depth c.args.terms.now c.loop-t.t-index _ c.t-item.result _ _ _
    c.loop-t-test.true c.t-item.is c.loop-t.invariant c.depth.ensures c.max-deepest.ensures

use Rattle.px_terms.specs.Terms.{term_put}
use Rattle.px_cases.proofs.Largest.{put_deepest}
use Rattle.px_cases.proofs.put_depths.+depth_of_put.Goals as goal

pub depth_of_puts-loop-t-preserved : goal.depth_of_puts-loop-t-preserved
depth_of_puts-loop-t-preserved t c = put_deepest (term_put c.args.variable c.args.by.now) c.args.terms.now c.loop-t.t-index _ c.t-item.result _ _ _ c.loop-t-test.true c.t-item.is c.loop-t.invariant c.depth_of_put.ensures c.max-deepest.ensures

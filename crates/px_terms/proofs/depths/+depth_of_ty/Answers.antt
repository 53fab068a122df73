use Rattle.px_terms.specs.Types.{ty_depth}
use Rattle.px_terms.proofs.depths.+depth_of_ty.Goals as goal
use Rattle.px_terms.proofs.Largest.{deepest_step}

pub depth_of_tys-loop-ty-preserved : goal.depth_of_tys-loop-ty-preserved
depth_of_tys-loop-ty-preserved t c =
    deepest_step ty_depth c.args.types.now c.loop-ty.ty-index _ c.ty-item.result _ _ _
    c.loop-ty-test.true c.ty-item.is c.loop-ty.invariant c.depth_of_ty.ensures c.max-deepest.ensures

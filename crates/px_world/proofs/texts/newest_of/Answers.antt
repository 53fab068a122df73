use Rattle.std.proofs.Common.{inl, inr}
use Rattle.px_world.proofs.NamedTexts.{IsNewest-more}
use Rattle.px_world.proofs.texts.newest_of.Goals as goal
use Rattle.px_world.proofs.texts.newest_of.Goals.{then-eq, else-eq}

pub loop-index-preserved : goal.loop-index-preserved
loop-index-preserved c =
    IsNewest-more c.args.texts.now c.loop-index.index c.index-texts-index.result c.args.name.now c.loop-index.newest c.if-eq.newest
    c.loop-index-test.true c.index-texts-index.is c.loop-index.invariant
    (elim c.if-eq.branch [ then-eq w ↦ inl ((cc), w.newest-is) | else-eq w ↦ inr ((cc), w.newest-is) ])

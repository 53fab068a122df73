use Rattle.px_props.proofs.WrittenSets.{set_of-next}
use Rattle.px_props.proofs.sets.set_of_written.Goals as goal

pub loop-written-preserved : goal.loop-written-preserved
loop-written-preserved c =
    set_of-next c.args.props.now c.loop-written.written-index _ c.loop-written.set c.with-set.result
    c.loop-written-test.true c.loop-written.invariant c.with-set.ensures.is

use Rattle.px_types.proofs.NoteLemmas.{among_next, all_noted}
use Rattle.px_types.proofs.notes.note.Goals as goal

pub loop-written-preserved : goal.loop-written-preserved
loop-written-preserved c =
    among_next c.args.props.now c.loop-written.written-index _ _ c.loop-written.set c.with-set.result c.loop-written-test.true c.with-set.ensures.has
    c.loop-written.invariant

pub returns : goal.returns
returns c =
    all_noted c.args.notes.now c.as_slice.result.now c.set.new.self c.args.def _ c.loop-written.set c.args.props.now c.loop-written.written-index
    c.as_slice.ensures c.requires c.loop-written-test.false c.loop-written.invariant c.set.ensures

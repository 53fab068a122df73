use Rattle.px_types.proofs.NoteLemmas.{notes_declared}
use Rattle.px_types.proofs.notes.declare.Goals as goal

pub returns-clause-notes : goal.returns-clause-notes
returns-clause-notes c =
    notes_declared c.args.program.now.declared c.push_properties.new.declared c.args.notes.now c.make_room.new.notes c.note.new.notes c.args.def
    c.args.props.now c.requires c.make_room.ensures.same c.in_ok-push_properties.ensures.ok c.note.ensures

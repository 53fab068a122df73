use Rattle.px_replay.proofs.RowLemmas.{note_stands, note_types, note_funs, split_stands}
use Rattle.px_replay.proofs.rows.row_children.Goals as goal

pub note_children-requires-clause-stands : goal.note_children-requires-clause-stands
note_children-requires-clause-stands c = note_stands c.args.all.now.names c.args.row c.in-Note.reference c.in-Note.sigma c.in-Note.is c.requires.spellable

pub note_children-requires-clause-types : goal.note_children-requires-clause-types
note_children-requires-clause-types c = note_types c.args.all.now.names c.args.row c.in-Note.reference c.in-Note.sigma c.in-Note.is c.requires.spellable

pub note_children-requires-clause-funs : goal.note_children-requires-clause-funs
note_children-requires-clause-funs c = note_funs c.args.all.now.names c.args.row c.in-Note.reference c.in-Note.sigma c.in-Note.is c.requires.spellable

pub split_children-requires : goal.split_children-requires
split_children-requires c = split_stands c.args.all.now.names c.args.row c.in-SplitTerm.term c.in-SplitTerm.is c.requires.spellable

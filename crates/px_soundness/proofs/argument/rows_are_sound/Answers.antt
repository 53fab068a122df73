use Rattle.px_soundness.proofs.NotesAreSound.{notes_are_sound}
use Rattle.px_soundness.proofs.RowsAreSound.{rows_are_sound}
use Rattle.px_soundness.proofs.argument.rows_are_sound.Goals as goal

pub returns : goal.returns
returns c = rows_are_sound c.each_term_has_value.ensures c.steps_keep_values.ensures (notes_are_sound c.open_clauses_are_typed.ensures)

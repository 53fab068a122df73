use Rattle.px_soundness.proofs.KeptRows.{rows_are_kept}
use Rattle.px_soundness.proofs.argument.rows_are_kept.Goals as goal

pub returns : goal.returns
returns c = rows_are_kept

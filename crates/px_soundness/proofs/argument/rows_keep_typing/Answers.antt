use Rattle.px_soundness.proofs.RowsTyped.{rows_keep_typing}
use Rattle.px_soundness.proofs.StepsKeepTypes.{steps_keep_types}
use Rattle.px_soundness.proofs.argument.rows_keep_typing.Goals as goal

pub returns : goal.returns
returns c = rows_keep_typing steps_keep_types

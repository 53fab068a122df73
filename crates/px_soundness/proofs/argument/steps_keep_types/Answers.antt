use Rattle.px_soundness.proofs.StepsKeepTypes.{steps_keep_types}
use Rattle.px_soundness.proofs.argument.steps_keep_types.Goals as goal

pub returns : goal.returns
returns c = steps_keep_types

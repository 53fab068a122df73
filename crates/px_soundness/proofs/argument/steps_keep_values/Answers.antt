use Rattle.px_soundness.proofs.ValuesOfSteps.{steps_keep_values}
use Rattle.px_soundness.proofs.argument.steps_keep_values.Goals as goal

pub returns : goal.returns
returns c = steps_keep_values

use Rattle.px_soundness.proofs.FirstTyped.{first_sequents_are_typed}
use Rattle.px_soundness.proofs.argument.first_sequents_are_typed.Goals as goal

pub returns : goal.returns
returns c = first_sequents_are_typed

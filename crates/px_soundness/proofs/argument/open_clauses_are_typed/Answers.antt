use Rattle.px_soundness.proofs.ClausesTyped.{open_clauses_are_typed}
use Rattle.px_soundness.proofs.argument.open_clauses_are_typed.Goals as goal

pub returns : goal.returns
returns c = open_clauses_are_typed

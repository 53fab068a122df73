use Rattle.px_machine.proofs.TransferLemmas.{Stores}
use Rattle.px_machine.proofs.runs.begin.Given as goal

abbrev pub invariant-loop-arg : goal.invariant-loop-arg
invariant-loop-arg l = Stores l.arg-items l.arg-index l.heap l.locals.items

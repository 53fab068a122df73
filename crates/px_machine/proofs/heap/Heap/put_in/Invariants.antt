use Rattle.px_machine.proofs.TransferLemmas.{PutFrom}
use Rattle.px_machine.proofs.heap.Heap.put_in.Given as goal

abbrev pub invariant-loop-at : goal.invariant-loop-at
invariant-loop-at l = PutFrom l.cells l.at l.initial.self l.self l.numbers.items

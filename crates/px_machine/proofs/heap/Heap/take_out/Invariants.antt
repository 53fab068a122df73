use Rattle.std.proofs.Common.{◌-◌, length}
use Rattle.px_machine.specs.Cells.{preorder}
use Rattle.px_machine.specs.Heap.{heap_trees, tree_at}
use Rattle.px_machine.proofs.TransferLemmas.{Written}
use Rattle.px_machine.proofs.heap.Heap.take_out.Given as goal

abbrev pub invariant-loop-next : goal.invariant-loop-next
invariant-loop-next l = Written l.self (tree_at (heap_trees l.self) l.number) l.cells.items l.left.items

abbrev pub decreases-loop-next : goal.decreases-loop-next
decreases-loop-next l = length (preorder (tree_at (heap_trees l.self) l.number)) - length l.cells.items

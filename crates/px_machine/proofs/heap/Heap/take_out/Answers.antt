use Rattle.std.proofs.Common.{rules, ◌≡◌, ◌∙◌, length}
use Rattle.px_machine.specs.Heap.{heap_trees, tree_at}
use Rattle.px_machine.proofs.TransferLemmas.{written_is_value}
use Rattle.px_machine.proofs.heap.Heap.take_out.Goals as goal

pub from_cells-requires : goal.from_cells-requires
from_cells-requires c =
    let none : length c.loop-next.left.items ≡ 0 = search rules in
    (written_is_value c.args.self.now (tree_at (heap_trees c.args.self.now) c.args.number) c.loop-next.cells.items c.from_vec.result c.loop-next.left.items c.loop-next.invariant none c.from_vec.ensures).1

pub returns : goal.returns
returns c =
    let none : length c.loop-next.left.items ≡ 0 = search rules in
    c.from_cells.ensures
    ∙ (written_is_value c.args.self.now (tree_at (heap_trees c.args.self.now) c.args.number) c.loop-next.cells.items c.from_vec.result c.loop-next.left.items c.loop-next.invariant none c.from_vec.ensures).0

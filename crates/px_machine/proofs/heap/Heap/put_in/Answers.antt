use Rattle.px_machine.proofs.TransferLemmas.{can_put, put_some, put_all}
use Rattle.px_machine.proofs.heap.Heap.put_in.Goals as goal

pub put_cell-requires : goal.put_cell-requires
put_cell-requires c =
    can_put c.cells-cells.result.now c.args.value.now c.loop-at.at _ c.args.self.now c.loop-at.self c.loop-at.numbers.items c.cells-cells.ensures c.loop-at-test.true c.loop-at.auto.at c.loop-at.invariant

pub take_last-requires : goal.take_last-requires
take_last-requires c = put_some c.cells-cells.result.now c.args.value.now c.loop-at.at c.args.self.now c.loop-at.self c.loop-at.numbers.items c.cells-cells.ensures c.loop-at-test.false c.loop-at.invariant

pub returns : goal.returns
returns c =
    put_all c.cells-cells.result.now c.args.value.now c.loop-at.at c.args.self.now c.loop-at.self c.loop-at.numbers.items c.take_last.new.numbers.items c.take_last.result c.cells-cells.ensures c.loop-at-test.false c.loop-at.invariant
    c.take_last.ensures

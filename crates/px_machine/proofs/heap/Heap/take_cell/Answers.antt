use Rattle.px_machine.proofs.FrameLemmas.{fields_below}
use Rattle.px_machine.proofs.TransferLemmas.{take_word, take_construction}
use Rattle.px_machine.proofs.heap.Heap.take_cell.Goals as goal

pub fields_at-requires : goal.fields_at-requires
fields_at-requires c = fields_below c.args.self.now c.args.number c.in-Con.datatype c.in-Con.con c.in-Con.first c.in-Con.count c.requires.heap c.in-Con.ensures

pub returns-in-Lit : goal.returns-in-Lit
returns-in-Lit c = take_word c.args.self.now c.args.number c.in-Lit.word c.args.left.now.items c.requires.heap c.in-Lit.ensures

pub returns-in_ok-push_reversed-in-Con : goal.returns-in_ok-push_reversed-in-Con
returns-in_ok-push_reversed-in-Con c =
    take_construction c.args.self.now c.args.number c.in-Con.datatype c.in-Con.con c.in-Con.first c.in-Con.count c.args.left.now.items c.fields_at.result.now c.push_reversed.new.stack.items c.requires.heap c.requires.within
    c.in-Con.ensures c.fields_at.ensures c.in_ok-push_reversed-in-Con.ensures

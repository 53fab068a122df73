use Rattle.px_machine.proofs.AnswerLemmas.{word_is, word_is_no_constructor}
use Rattle.px_machine.proofs.machine.Machine.word.Goals as goal

pub unreachable-requires : goal.unreachable-requires
unreachable-requires c = word_is_no_constructor c.args.self.now.heap c.args.number c.requires.word.0 c.in-Con.datatype c.in-Con.con c.in-Con.first c.in-Con.count c.requires.heap c.requires.word.1 c.in-Con.ensures

pub returns : goal.returns
returns c = word_is c.args.self.now.heap c.args.number c.in-Lit.word c.requires.heap c.in-Lit.ensures

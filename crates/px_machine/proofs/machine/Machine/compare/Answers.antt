use Rattle.px_machine.specs.Running.{parts_of}
use Rattle.px_machine.proofs.RunLemmas.{on_ok}
use Rattle.px_machine.proofs.AnswerLemmas.{first_word, second_word, compare_in_code}
use Rattle.px_machine.proofs.machine.Machine.compare.Goals as goal

pub word-first-requires-clause-word : goal.word-first-requires-clause-word
word-first-requires-clause-word c = first_word (parts_of c.args.self.now) c.args.target c.requires.can.0 c.args.start c.index.result.now c.requires.built_in c.requires.can.1 c.index.ensures

pub word-second-requires-clause-word : goal.word-second-requires-clause-word
word-second-requires-clause-word c = second_word (parts_of c.args.self.now) c.args.target c.requires.can.0 c.args.start c.index-2.result.now c.requires.built_in c.requires.can.1 c.index-2.ensures

pub returns : goal.returns
returns c = on_ok c.answer-2.result (λ a gs. compare_in_code (parts_of c.args.self.now) (parts_of c.answer-2.new.self) c.args.target c.requires.can.0 gs c.args.start c.index.result.now c.index-2.result.now c.word-first.result c.word-second.result c.answer.result c.requires.built_in c.requires.can.1 c.index.ensures c.index-2.ensures c.word-first.ensures c.word-second.ensures c.answer.ensures a) c.answer-2.ensures

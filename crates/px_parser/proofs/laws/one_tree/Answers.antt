use Rattle.px_parser.specs.Words.{words_of}
use Rattle.px_parser.proofs.Programs.{one_program}
use Rattle.px_parser.proofs.laws.one_tree.Goals as goal

pub returns : goal.returns
returns c = λ text tokens tree other is is_other. one_program (words_of text tokens) tree other is is_other

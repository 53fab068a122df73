use Rattle.px_parser.specs.Words.{words_of}
use Rattle.px_parser.proofs.Programs.{no_program_and_fault}
use Rattle.px_parser.proofs.laws.never_both.Goals as goal

pub returns : goal.returns
returns c = λ text tokens tree at is fault. no_program_and_fault (words_of text tokens) tree fault.number is fault.is

use Rattle.std.proofs.Common.{refl}
use Rattle.px_lexer.specs.Forms.{words, marks}
use Rattle.px_lexer.proofs.laws.letters.Goals as goal

pub returns : goal.returns
unfolding words marks
returns c = record { words_are = refl; marks_are = refl }

use Rattle.px_lexer.proofs.Readings.{never_both_law}
use Rattle.px_lexer.proofs.laws.never_both.Goals as goal

pub returns : goal.returns
returns c = never_both_law

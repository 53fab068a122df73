use Rattle.px_lexer.proofs.Spellings.{one_spelling_law}
use Rattle.px_lexer.proofs.laws.one_spelling.Goals as goal

pub returns : goal.returns
returns c = one_spelling_law

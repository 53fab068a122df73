use Rattle.px_lexer.proofs.Readings.{one_list_law}
use Rattle.px_lexer.proofs.laws.one_list.Goals as goal

pub returns : goal.returns
returns c = one_list_law

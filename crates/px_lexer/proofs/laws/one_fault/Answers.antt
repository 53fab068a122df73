use Rattle.px_lexer.proofs.Readings.{one_fault_law}
use Rattle.px_lexer.proofs.laws.one_fault.Goals as goal

pub returns : goal.returns
returns c = one_fault_law

use Rattle.px_scope.proofs.OneProgram.{one_numbering}
use Rattle.px_scope.proofs.laws.one_numbering.Goals as goal

pub returns : goal.returns
returns c = one_numbering

use Rattle.px_soundness.proofs.OneClause.{one_clause}
use Rattle.px_soundness.proofs.laws.one_clause.Goals as goal

pub returns : goal.returns
returns c = λ P n clause other one two. one_clause P n clause other one two

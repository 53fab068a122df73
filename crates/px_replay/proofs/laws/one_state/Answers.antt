use Rattle.px_replay.proofs.Leading.{only_state}
use Rattle.px_replay.proofs.laws.one_state.Goals as goal

pub returns : goal.returns
returns c = λ P checked lines old a b first second. only_state c.one_row.ensures c.one_opening.ensures c.one_clause.ensures P checked lines old a b first second

use Rattle.px_replay.proofs.Begun.{partial_is_begun}
use Rattle.px_replay.proofs.laws.partials_are_trees.Goals as goal

pub returns : goal.returns
returns c = λ P lines. partial_is_begun c.stack_is_tree.ensures P lines

use Rattle.px_replay.proofs.Trees.{end_is_derivation}
use Rattle.px_replay.proofs.laws.ends_are_derivations.Goals as goal

pub returns : goal.returns
returns c = λ P lines. end_is_derivation c.stack_is_tree.ensures P lines

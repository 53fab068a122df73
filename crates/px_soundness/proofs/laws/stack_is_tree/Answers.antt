use Rattle.px_soundness.proofs.Stacks.{stack_is_tree}
use Rattle.px_soundness.proofs.laws.stack_is_tree.Goals as goal

pub returns : goal.returns
returns c = λ P n s rows. stack_is_tree P n s rows

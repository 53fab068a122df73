use Rattle.px_soundness.proofs.Stacks.{stack_is_trees}
use Rattle.px_soundness.proofs.laws.stack_is_trees.Goals as goal

pub returns : goal.returns
returns c = λ P n stack rows. stack_is_trees P n stack rows

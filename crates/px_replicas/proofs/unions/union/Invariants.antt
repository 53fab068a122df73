use Rattle.std.proofs.Common.{◌+◌, length}
use Rattle.px_replicas.proofs.UnionSteps.{Merging}
use Rattle.px_replicas.proofs.unions.union.Given as goal

abbrev pub invariant-numbers : goal.invariant-numbers
invariant-numbers l = Merging l.fn.one l.fn.other l.both l.left l.right

abbrev pub decreases-numbers : goal.decreases-numbers
decreases-numbers l = length l.left + length l.right

use Rattle.std.proofs.Common.{◌≡◌, ◌++◌, take}
use Rattle.px_prover.proofs.spots.push_all.Given as goal

abbrev pub invariant-loop-child : goal.invariant-loop-child
invariant-loop-child l = l.path ≡ l.initial.path ++ take l.child-index l.children

use Rattle.std.proofs.Common.{◌≡◌, ◌++◌, take}
use Rattle.px_machine.specs.Cells.{preorders}
use Rattle.px_replicas.specs.Serving.{built_values}
use Rattle.px_replicas.proofs.first.+first.Given as goal

abbrev pub invariant-push_all-loop-term : goal.invariant-push_all-loop-term
invariant-push_all-loop-term l = l.cells ≡ l.initial.cells ++ preorders (built_values (take l.term-index l.terms))

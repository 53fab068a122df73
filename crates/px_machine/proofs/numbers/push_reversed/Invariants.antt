use Rattle.std.proofs.Common.{◌≡◌, ◌++◌, drop, reverse}
use Rattle.px_machine.proofs.numbers.push_reversed.Given as goal

abbrev pub invariant-loop-at : goal.invariant-loop-at
invariant-loop-at l = l.stack.items ≡ l.initial.stack.items ++ reverse (drop l.at l.numbers)

use Rattle.std.proofs.Common.{◌≡◌, ℕ, ◌+◌, ◌-◌, length}
use Rattle.px_equations.specs.Index.{number_at}
use Rattle.px_equations.proofs.index.make_room.Given as goal

abbrev pub invariant-room : goal.invariant-room
invariant-room l = (at : ℕ) → number_at l.numbers at ≡ number_at l.initial.numbers at

abbrev pub decreases-room : goal.decreases-room
decreases-room l = (l.place + 1) - length l.numbers

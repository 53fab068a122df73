use Rattle.std.proofs.Common.{◌≡◌, length}
use Rattle.px_derive.specs.Gives.{left}
use Rattle.px_derive.specs.Readers.{push, more_at}
use Rattle.px_derive.specs.Reading.{small_at, numbers_at}
use Rattle.px_derive.proofs.fields.read_children.Given as goal

abbrev pub invariant-loop-after : goal.invariant-loop-after
invariant-loop-after l = more_at 47 (small_at) push l.path (left l.rest) ≡ numbers_at 47 (left l.fn.text)

abbrev pub decreases-loop-after : goal.decreases-loop-after
decreases-loop-after l = length (left l.rest)

use Rattle.std.proofs.Common.{◌≡◌, length}
use Rattle.px_derive.specs.Gives.{left}
use Rattle.px_derive.specs.Readers.{push, more_at}
use Rattle.px_derive.specs.Reading.{fun_at, funs_at}
use Rattle.px_derive.proofs.types.read_funs.Given as goal

abbrev pub invariant-loop-after : goal.invariant-loop-after
invariant-loop-after l = more_at 44 (fun_at l.names l.room) push l.funs (left l.rest) ≡ funs_at l.names l.room (left l.fn.text)

abbrev pub decreases-loop-after : goal.decreases-loop-after
decreases-loop-after l = length (left l.rest)

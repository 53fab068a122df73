use Rattle.std.proofs.Common.{◌≡◌, ◌+◌, ◌*◌, length}
use Rattle.px_derive.specs.Gives.{left}
use Rattle.px_derive.specs.Readers.{push, more_at}
use Rattle.px_derive.specs.Reading.{ty_at, tys_at}
use Rattle.px_derive.proofs.types.+types.Given as goal

abbrev pub decreases-read_type : goal.decreases-read_type
decreases-read_type l = 4 * l.room

abbrev pub decreases-read_types : goal.decreases-read_types
decreases-read_types l = 4 * l.room + 1

abbrev pub decreases-read_type_arguments : goal.decreases-read_type_arguments
decreases-read_type_arguments l = 4 * l.room + 2

abbrev pub decreases-read_datatype : goal.decreases-read_datatype
decreases-read_datatype l = 4 * l.room + 3

abbrev pub invariant-read_types-loop-after : goal.invariant-read_types-loop-after
invariant-read_types-loop-after l = more_at 44 (ty_at l.names l.room) push l.types (left l.rest) ≡ tys_at l.names l.room (left l.fn.text)

abbrev pub decreases-read_types-loop-after : goal.decreases-read_types-loop-after
decreases-read_types-loop-after l = length (left l.rest)

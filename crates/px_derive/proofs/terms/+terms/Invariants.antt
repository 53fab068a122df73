use Rattle.std.proofs.Common.{◌≡◌, ◌+◌, ◌*◌, length}
use Rattle.px_derive.specs.Gives.{left}
use Rattle.px_derive.specs.Readers.{push, more_at}
use Rattle.px_derive.specs.Reading.{argument_at, argument_added, value_at, some_arguments_at, terms_at}
use Rattle.px_derive.proofs.terms.+terms.Given as goal

abbrev pub decreases-read_argument : goal.decreases-read_argument
decreases-read_argument l = 5 * l.room

abbrev pub decreases-read_term : goal.decreases-read_term
decreases-read_term l = 5 * l.room + 1

abbrev pub decreases-read_terms : goal.decreases-read_terms
decreases-read_terms l = 5 * l.room + 2

abbrev pub decreases-read_fields : goal.decreases-read_fields
decreases-read_fields l = 5 * l.room + 3

abbrev pub decreases-read_construction : goal.decreases-read_construction
decreases-read_construction l = 5 * l.room + 4

abbrev pub decreases-read_some_arguments : goal.decreases-read_some_arguments
decreases-read_some_arguments l = 5 * l.room + 1

abbrev pub decreases-read_arguments : goal.decreases-read_arguments
decreases-read_arguments l = 5 * l.room + 2

abbrev pub decreases-read_called : goal.decreases-read_called
decreases-read_called l = 5 * l.room + 3

abbrev pub invariant-read_terms-loop-after : goal.invariant-read_terms-loop-after
invariant-read_terms-loop-after l = more_at 44 (value_at (argument_at l.names l.room)) push l.terms (left l.rest) ≡ terms_at l.names l.room (left l.fn.text)

abbrev pub decreases-read_terms-loop-after : goal.decreases-read_terms-loop-after
decreases-read_terms-loop-after l = length (left l.rest)

abbrev pub invariant-read_some_arguments-loop-after : goal.invariant-read_some_arguments-loop-after
invariant-read_some_arguments-loop-after l = more_at 44 (argument_at l.names l.room) argument_added l.all (left l.rest) ≡ some_arguments_at (argument_at l.names l.room) (left l.fn.text)

abbrev pub decreases-read_some_arguments-loop-after : goal.decreases-read_some_arguments-loop-after
decreases-read_some_arguments-loop-after l = length (left l.rest)

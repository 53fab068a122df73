use Rattle.std.proofs.Common.{◌≡◌, ◌+◌, ◌*◌, length}
use Rattle.px_lexer.specs.declared.token.Mark.TheVariants.{Comma}
use Rattle.px_parser.specs.Gives.{words}
use Rattle.px_parser.specs.Kinds.{is_mark, fronts}
use Rattle.px_parser.specs.Reading.{type_at, types_at}
use Rattle.px_parser.proofs.Loops.{so_far, next_at}
use Rattle.px_parser.proofs.types.+types.Given as goal

abbrev pub decreases-read_type : goal.decreases-read_type
decreases-read_type l = 3 * l.room

abbrev pub decreases-read_type_arguments : goal.decreases-read_type_arguments
decreases-read_type_arguments l = 3 * l.room + 2

abbrev pub decreases-read_types : goal.decreases-read_types
decreases-read_types l = 3 * l.room + 1

abbrev pub invariant-read_types-loop-after : goal.invariant-read_types-loop-after
invariant-read_types-loop-after l = so_far (fronts (is_mark Comma)) (next_at Comma (type_at l.room)) l.types (words l.rest) ≡ types_at l.room (words l.fn.tokens)

abbrev pub decreases-read_types-loop-after : goal.decreases-read_types-loop-after
decreases-read_types-loop-after l = length (words l.rest)

use Rattle.std.proofs.Common.{◌≡◌, ◌+◌, ◌*◌, length}
use Rattle.px_lexer.specs.declared.token.Mark.TheVariants.{Comma}
use Rattle.px_parser.specs.Gives.{words}
use Rattle.px_parser.specs.Kinds.{is_mark, fronts}
use Rattle.px_parser.specs.Reading.{expr_at, exprs_at, arm_at, arms_at}
use Rattle.px_parser.proofs.Loops.{so_far, next_at}
use Rattle.px_parser.proofs.expressions.+expressions.Given as goal

-- what an expression calls has room for one part less
abbrev pub decreases-read_expression : goal.decreases-read_expression
decreases-read_expression l = 4 * l.room

abbrev pub decreases-read_construction : goal.decreases-read_construction
decreases-read_construction l = 4 * l.room + 3

abbrev pub decreases-read_call : goal.decreases-read_call
decreases-read_call l = 4 * l.room + 3

abbrev pub decreases-read_match : goal.decreases-read_match
decreases-read_match l = 4 * l.room + 3

abbrev pub decreases-read_fields : goal.decreases-read_fields
decreases-read_fields l = 4 * l.room + 2

abbrev pub decreases-read_arguments : goal.decreases-read_arguments
decreases-read_arguments l = 4 * l.room + 2

abbrev pub decreases-read_arms : goal.decreases-read_arms
decreases-read_arms l = 4 * l.room + 2

abbrev pub decreases-read_expressions : goal.decreases-read_expressions
decreases-read_expressions l = 4 * l.room + 1

abbrev pub decreases-read_arm : goal.decreases-read_arm
decreases-read_arm l = 4 * l.room + 1

abbrev pub invariant-read_expressions-loop-after : goal.invariant-read_expressions-loop-after
invariant-read_expressions-loop-after l = so_far (fronts (is_mark Comma)) (next_at Comma (expr_at l.room)) l.expressions (words l.rest) ≡ exprs_at l.room (words l.fn.tokens)

abbrev pub decreases-read_expressions-loop-after : goal.decreases-read_expressions-loop-after
decreases-read_expressions-loop-after l = length (words l.rest)

abbrev pub invariant-read_arms-loop-after : goal.invariant-read_arms-loop-after
invariant-read_arms-loop-after l = so_far (fronts (is_mark Comma)) (next_at Comma (arm_at l.room)) l.arms (words l.rest) ≡ arms_at l.room (words l.fn.tokens)

abbrev pub decreases-read_arms-loop-after : goal.decreases-read_arms-loop-after
decreases-read_arms-loop-after l = length (words l.rest)

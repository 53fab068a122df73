use Rattle.std.proofs.Common.{◌≡◌, length}
use Rattle.px_lexer.specs.declared.token.Mark.TheVariants.{Comma}
use Rattle.px_parser.specs.Gives.{words}
use Rattle.px_parser.specs.Kinds.{is_mark, fronts}
use Rattle.px_parser.specs.Reading.{param_list_at, param_at}
use Rattle.px_parser.proofs.Loops.{so_far, next_at}
use Rattle.px_parser.proofs.parameters.read_param_list.Given as goal

abbrev pub invariant-loop-after : goal.invariant-loop-after
invariant-loop-after l = so_far (fronts (is_mark Comma)) (next_at Comma param_at) l.params (words l.rest) ≡ param_list_at (words l.fn.tokens)

abbrev pub decreases-loop-after : goal.decreases-loop-after
decreases-loop-after l = length (words l.rest)

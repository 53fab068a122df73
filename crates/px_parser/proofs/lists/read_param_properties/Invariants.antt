use Rattle.std.proofs.Common.{◌≡◌, length}
use Rattle.px_lexer.specs.declared.token.Mark.TheVariants.{Comma}
use Rattle.px_parser.specs.Gives.{words}
use Rattle.px_parser.specs.Reading.{param_properties_at, property_at, comma_property}
use Rattle.px_parser.proofs.Loops.{so_far, next_at}
use Rattle.px_parser.proofs.lists.read_param_properties.Given as goal

abbrev pub invariant-loop-rest : goal.invariant-loop-rest
invariant-loop-rest l = so_far comma_property (next_at Comma property_at) l.props (words l.rest) ≡ param_properties_at (words l.fn.tokens)

abbrev pub decreases-loop-rest : goal.decreases-loop-rest
decreases-loop-rest l = length (words l.rest)

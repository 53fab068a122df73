use Rattle.std.proofs.Common.{rules}
use Rattle.px_parser.specs.Words.{word_of}
use Rattle.px_parser.specs.Gives.{words}
use Rattle.px_parser.specs.Reading.{property_value}
use Rattle.px_parser.proofs.Fronts.{fails_at, none_at, other_at, some_at}
use Rattle.px_parser.proofs.rest.Rest.property.Goals as goal

pub returns-in_default : goal.returns-in_default
returns-in_default c = fails_at c.fault.result (words c.args.self) _ c.fault.ensures (none_at property_value (words c.args.self) c.in_default.ensures.words)

pub returns-in_default-kind : goal.returns-in_default-kind
returns-in_default-kind c = fails_at c.fault-in_default-kind.result (words c.args.self) _ c.fault-in_default-kind.ensures (other_at property_value (words c.args.self) (words c.in-Some.rest) (word_of c.args.self.text.now c.in-Some.first) c.in-Some.ensures.words (search rules))

pub returns : goal.returns
returns c =
    some_at property_value (words c.args.self) (words c.in-Some.rest) (word_of c.args.self.text.now c.in-Some.first) _ c.in-Some.ensures.words (search rules)

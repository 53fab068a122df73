use Rattle.px_parser.specs.Gives.{words}
use Rattle.px_parser.proofs.CommaProperty.{is_comma_property, no_comma_property}
use Rattle.px_parser.proofs.rest.Rest.begins_comma_property.Goals as goal

pub returns-in-Some : goal.returns-in-Some
returns-in-Some c = is_comma_property (words c.args.self) (words c.in-Some.rest) _ c.in-Some.ensures.begins c.in-Some.ensures.rest c.begins_property.ensures

pub returns-in-None : goal.returns-in-None
returns-in-None c = no_comma_property (words c.args.self) c.in-None.ensures.none

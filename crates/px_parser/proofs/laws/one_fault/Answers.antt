use Rattle.px_parser.proofs.Parses.{one_place}
use Rattle.px_parser.proofs.laws.one_fault.Goals as goal

pub returns : goal.returns
returns c = one_place

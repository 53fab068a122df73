use Rattle.px_parser.specs.Gives.{words}
use Rattle.px_parser.proofs.Fronts.{fails_at}
use Rattle.px_parser.proofs.Marks.{mark_at_fails}
use Rattle.px_parser.proofs.rest.Rest.mark.Goals as goal

pub returns-in-None : goal.returns-in-None
returns-in-None c = fails_at c.fault.result (words c.args.self) _ c.fault.ensures (mark_at_fails c.args.mark (words c.args.self) c.in-None.ensures.none)

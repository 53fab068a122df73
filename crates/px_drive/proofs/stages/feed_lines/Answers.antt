use Rattle.px_drive.proofs.Feedings.{fed_refused_from}
use Rattle.px_drive.proofs.stages.feed_lines.Goals as goal

pub returns-in_err-feed-in-Line : goal.returns-in_err-feed-in-Line
returns-in_err-feed-in-Line c =
    fed_refused_from _ _ _ _ _ _ _ _ _ _ c.in_err-feed-in-Line.field-0.0 c.loop-start.invariant c.in-Line.ensures c.in_err-feed-in-Line.ensures.program
    (c.in_err-feed-in-Line.ensures.stands c.loop-start.invariant.lines c.loop-start.invariant.stands) c.from_residual.ensures.1

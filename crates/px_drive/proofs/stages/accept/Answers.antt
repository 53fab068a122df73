use Rattle.std.proofs.Common.{◌∙◌}
use Rattle.px_drive.proofs.Feedings.{feeds_on, accepted_from, refused_from}
use Rattle.px_drive.proofs.stages.accept.Goals as goal

pub returns-in_err-feed_lines : goal.returns-in_err-feed_lines
returns-in_err-feed_lines c =
    rw (← c.as_slice.ensures) (feeds_on _ _ _ c.feed_lines.new.replay _ _ (c.in_ok-replay.ensures.program ∙ c.in_ok-all.ensures) c.in_err-feed_lines.ensures c.from_residual-in_err-feed_lines.ensures.1)

pub returns-in_err-accepted : goal.returns-in_err-accepted
returns-in_err-accepted c =
    rw (← c.as_slice.ensures) (refused_from _ _ _ _ _ c.in_err-accepted.field-0.0 (c.in_ok-replay.ensures.program ∙ c.in_ok-all.ensures) c.in_ok-feed_lines.ensures
    (c.in_err-accepted.ensures.stands c.in_ok-feed_lines.ensures.lines c.in_ok-feed_lines.ensures.stands) c.from_residual-in_err-accepted.ensures.1)

pub returns : goal.returns
returns c =
    rw (← c.as_slice.ensures) (accepted_from _ _ _ _ c.in_ok-accepted.accepted (c.in_ok-replay.ensures.program ∙ c.in_ok-all.ensures) c.in_ok-feed_lines.ensures
    (c.in_ok-accepted.ensures.stands c.in_ok-feed_lines.ensures.lines c.in_ok-feed_lines.ensures.stands))

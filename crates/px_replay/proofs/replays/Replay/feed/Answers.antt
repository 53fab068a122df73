use Rattle.std.proofs.Common.{Some, refl}
use Rattle.px_replay.proofs.FeedLemmas.{kept_fed, line_fed, line_refused, seen}
use Rattle.px_replay.proofs.replays.Replay.feed.Goals as goal

pub invariant_of-self : goal.invariant_of-self
invariant_of-self c =
    kept_fed c.self.inside.all.now c.self.inside.progress c.take_line.new.progress c.self.inside.fed c.self.inside.refusal c.args.line.now c.args.self.now c.self.view_is c.in_default.is c.self.invariant c.requires c.in-Ok.ensures.takes c.in-Ok.ensures.sound

pub returns-in-Ok-clause-stands : goal.returns-in-Ok-clause-stands
returns-in-Ok-clause-stands c =
    line_fed c.self.inside.all.now c.self.inside.progress c.take_line.new.progress c.self.inside.fed c.self.inside.refusal c.args.line.now c.args.self.now c.self.view_is c.in_default.is c.in-Ok.ensures.takes

pub returns-in-Err-clause-stands : goal.returns-in-Err-clause-stands
returns-in-Err-clause-stands c =
    line_refused c.one_row.ensures c.one_state.ensures c.self.inside.all.now c.checked-checked.ensures.checked c.self.inside.progress c.self.inside.fed c.self.inside.refusal c.args.line.now c.args.self.now (seen c.self.inside.all.now c.take_line.new.progress c.self.inside.fed (Some c.at_line-end.result)) c.in-Err.refusal c.at_line-end.result
    c.self.view_is refl c.in-Err.ensures.refuses c.at_line-end.ensures

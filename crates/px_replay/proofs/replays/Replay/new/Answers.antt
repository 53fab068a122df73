use Rattle.std.proofs.Common.{refl}
use Rattle.px_replay.proofs.FeedLemmas.{kept_first, stands_first}
use Rattle.px_replay.proofs.replays.Replay.new.Goals as goal

pub invariant_of-result : goal.invariant_of-result
invariant_of-result c = kept_first c.args.all.now (record { next = 0; stack = c.new.result }) 0 refl c.new.ensures refl

pub returns-clause-stands : goal.returns-clause-stands
returns-clause-stands c = stands_first c.args.all.now c.new.result c.new.ensures

use Rattle.px_replay.proofs.NoteLemmas.{own_types_more}
use Rattle.px_replay.proofs.notes.types_of_own.Goals as goal

pub loop-number-preserved : goal.loop-number-preserved
loop-number-preserved c = own_types_more c.loop-number.number _ _ c.loop-number.invariant c.in_ok-push.ensures.ok

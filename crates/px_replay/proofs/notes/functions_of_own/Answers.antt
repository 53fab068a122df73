use Rattle.px_replay.proofs.NoteLemmas.{own_functions_more}
use Rattle.px_replay.proofs.notes.functions_of_own.Goals as goal

pub loop-number-preserved : goal.loop-number-preserved
loop-number-preserved c = own_functions_more c.loop-number.number _ _ _ c.new.ensures c.loop-number.invariant c.in_ok-push.ensures.ok

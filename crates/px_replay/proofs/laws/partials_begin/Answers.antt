use Rattle.px_replay.proofs.Leading.{partial_front}
use Rattle.px_replay.proofs.laws.partials_begin.Goals as goal

pub returns : goal.returns
returns c = λ P lines more partial. partial_front P lines more partial

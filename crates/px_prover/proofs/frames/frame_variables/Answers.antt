use Rattle.px_prover.proofs.RisingLemmas.{frames_answer}
use Rattle.px_prover.proofs.frames.frame_variables.Goals as goal

pub returns : goal.returns
returns c = frames_answer c.args.clause.now c.len.result c.rising_lists.result c.len.ensures c.rising_lists.ensures

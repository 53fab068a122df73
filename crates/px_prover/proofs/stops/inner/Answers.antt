use Rattle.std.specs.Option.{option_copied}
use Rattle.px_prover.proofs.StopLemmas.{call_blocks}
use Rattle.px_prover.proofs.stops.inner.Goals as goal

pub returns-in-Wle : goal.returns-in-Wle
returns-in-Wle c =
    call_blocks c.args.u.now c.args.stops.now c.in-Call.fun c.in-Call.funs c.in-Call.args c.as_slice.result.now c.len.result (option_copied c.stop_of_call.result) c.in-Call.is c.in-Wle.is c.as_slice.ensures
    c.len.ensures c.stop_of_call.ensures

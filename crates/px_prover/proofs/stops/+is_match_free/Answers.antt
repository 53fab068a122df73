use Rattle.px_prover.proofs.StopLemmas.{con_match_free, call_match_free}
use Rattle.px_prover.proofs.stops.+is_match_free.Goals as goal

pub is_match_free-returns-in-Con : goal.is_match_free-returns-in-Con
is_match_free-returns-in-Con t c =
    con_match_free c.args.t.now c.in-Con.datatype c.in-Con.con c.in-Con.types c.in-Con.fields c.as_slice.result.now c.are_match_free.result c.in-Con.is (c.as_slice.ensures) c.are_match_free.ensures

pub is_match_free-returns-in-Call : goal.is_match_free-returns-in-Call
is_match_free-returns-in-Call t c =
    call_match_free c.args.t.now c.in-Call.fun c.in-Call.funs c.in-Call.args c.as_slice-in-Call.result.now c.are_match_free-in-Call.result c.in-Call.is (c.as_slice-in-Call.ensures) c.are_match_free-in-Call.ensures

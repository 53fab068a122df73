use Rattle.px_descent.specs.Around.{standing_of, bound_of}
use Rattle.px_descent.proofs.ClearedParts.{part_cleared, arm_cleared, call_cleared, match_cleared}
use Rattle.px_descent.proofs.kept.+clear.Goals as goal

pub clear_in_parts-loop-part-preserved : goal.clear_in_parts-loop-part-preserved
clear_in_parts-loop-part-preserved t c =
    let at = c.args.positions.now in
    part_cleared at.program.now at.def at.first c.args.kept.now c.loop-part.kept c.clear_raised.new.kept
    c.args.parts.now c.loop-part.part-index c.part-item.result (bound_of c.args.around.now)
    c.loop-part-test.true c.part-item.is c.loop-part.invariant c.clear_raised.ensures

pub clear_in_arms-loop-con-preserved : goal.clear_in_arms-loop-con-preserved
clear_in_arms-loop-con-preserved t c =
    let at = c.args.positions.now in
    let on = c.args.matched.now in
    arm_cleared at.program.now at.def at.first c.args.kept.now c.loop-con.kept c.clear_raised.new.kept
    on.datatype c.args.arms.now c.loop-con.con c.index-arms-con.result (standing_of on.on) (bound_of on.around.now) (bound_of c.arm_of-around.result)
    c.loop-con-test.true c.index-arms-con.is c.arm_of-around.ensures c.loop-con.invariant c.clear_raised.ensures

pub clear_raised-returns-in-Call : goal.clear_raised-returns-in-Call
clear_raised-returns-in-Call t c =
    let at = c.args.positions.now in
    call_cleared at.program.now at.def at.first c.args.kept.now c.clear_own.new.kept c.clear_in_parts-in-Call.new.kept
    c.args.t.now c.in-Call.fun c.in-Call.funs c.in-Call.args c.as_slice-in-Call.result.now (bound_of c.args.around.now)
    c.in-Call.is c.as_slice-in-Call.ensures c.clear_own.ensures c.clear_in_parts-in-Call.ensures

pub clear_raised-returns-in-Match : goal.clear_raised-returns-in-Match
clear_raised-returns-in-Match t c =
    let at = c.args.positions.now in
    match_cleared at.program.now at.def at.first c.args.kept.now c.clear_own.new.kept c.clear_raised.new.kept c.clear_in_arms.new.kept
    c.args.t.now c.in-Match.on c.get.result.now c.get-in-Match.result.now c.in-Match.datatype c.in-Match.types c.in-Match.arms
    c.as_slice-in-Match.result.now
    (standing_of c.standing.result) (bound_of c.args.around.now)
    c.in-Match.is c.get.ensures c.get-in-Match.ensures (c.standing.ensures at.program.now at.def) c.as_slice-in-Match.ensures
    c.clear_own.ensures c.clear_raised.ensures c.clear_in_arms.ensures

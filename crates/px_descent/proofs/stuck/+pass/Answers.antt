use Rattle.std.proofs.Common.{refl}
use Rattle.px_terms.specs.declared.term.Term.{out-Term}
use Rattle.px_descent.specs.Around.{standing_of, bound_of}
use Rattle.px_descent.proofs.PassedParts.{part_passed, part_stuck, arm_passed, arm_stuck, own_stuck, call_passed, scrutinee_stuck, arms_searched}
use Rattle.px_descent.proofs.stuck.+pass.Goals as goal

pub pass_parts-loop-part-preserved : goal.pass_parts-loop-part-preserved
pass_parts-loop-part-preserved t c =
    part_passed c.args.search.now c.args.parts.now c.loop-part.part-index c.part-item.result (bound_of c.args.around.now) c.args.before
    c.loop-part.passed
    c.loop-part-test.true c.part-item.is c.loop-part.invariant c.in_ok-passed.passed c.in_ok-passed.ensures

pub pass_parts-returns-in_err-passed : goal.pass_parts-returns-in_err-passed
pass_parts-returns-in_err-passed t c =
    part_stuck c.args.search.now c.args.parts.now c.loop-part.part-index c.part-item.result (bound_of c.args.around.now) c.args.before
    c.loop-part.passed
    c.loop-part-test.true c.part-item.is c.loop-part.invariant c.from_residual.result c.in_err-passed.field-0.0 c.from_residual.ensures.1
    c.in_err-passed.ensures

pub pass_arms-loop-con-preserved : goal.pass_arms-loop-con-preserved
pass_arms-loop-con-preserved t c =
    let on = c.args.matched.now in
    arm_passed c.args.search.now on.datatype c.args.arms.now c.loop-con.con c.index-arms-con.result (standing_of on.on) (bound_of on.around.now)
    (bound_of c.arm_of-around.result) c.args.before c.loop-con.passed
    c.loop-con-test.true c.index-arms-con.is c.arm_of-around.ensures c.loop-con.invariant c.in_ok-passed.passed c.in_ok-passed.ensures

pub pass_arms-returns-in_err-passed : goal.pass_arms-returns-in_err-passed
pass_arms-returns-in_err-passed t c =
    let on = c.args.matched.now in
    arm_stuck c.args.search.now on.datatype c.args.arms.now c.loop-con.con c.index-arms-con.result (standing_of on.on) (bound_of on.around.now)
    (bound_of c.arm_of-around.result) c.args.before c.loop-con.passed
    c.loop-con-test.true c.index-arms-con.is c.arm_of-around.ensures c.loop-con.invariant c.from_residual.result c.in_err-passed.field-0.0
    c.from_residual.ensures.1 c.in_err-passed.ensures

pub pass-returns-in_err-passed : goal.pass-returns-in_err-passed
pass-returns-in_err-passed t c =
    own_stuck c.args.search.now c.args.t.now (out-Term c.args.t.now) (bound_of c.args.around.now) c.args.before refl
    c.from_residual.result c.in_err-passed.field-0.0 c.from_residual.ensures.1 c.in_err-passed.ensures

pub pass-returns-in-Call : goal.pass-returns-in-Call
pass-returns-in-Call t c =
    call_passed c.args.search.now c.args.t.now c.in-Call.fun c.in-Call.funs c.in-Call.args c.as_slice-in-Call.result.now (bound_of c.args.around.now)
    c.args.before c.in_ok-passed.passed c.pass_parts-in-Call.result
    c.in-Call.is c.as_slice-in-Call.ensures c.in_ok-passed.ensures c.pass_parts-in-Call.ensures

pub pass-returns-in_err-scrutinee-in-Match : goal.pass-returns-in_err-scrutinee-in-Match
pass-returns-in_err-scrutinee-in-Match t c =
    let m = c.in-Match in
    scrutinee_stuck c.args.search.now c.args.t.now m.on c.get.result.now m.datatype m.types m.arms (bound_of c.args.around.now) c.args.before
    c.in_ok-passed.passed
    m.is c.get.ensures c.in_ok-passed.ensures c.from_residual-in_err-scrutinee-in-Match.result c.in_err-scrutinee-in-Match.field-0.0
    c.from_residual-in_err-scrutinee-in-Match.ensures.1 c.in_err-scrutinee-in-Match.ensures

pub pass-returns-in_ok-scrutinee-in-Match : goal.pass-returns-in_ok-scrutinee-in-Match
pass-returns-in_ok-scrutinee-in-Match t c =
    let m = c.in-Match in
    arms_searched c.args.search.now c.args.t.now m.on c.get.result.now m.datatype m.types m.arms (bound_of c.args.around.now) c.args.before
    c.in_ok-passed.passed
    m.is c.get.ensures c.in_ok-passed.ensures c.in_ok-scrutinee-in-Match.scrutinee c.get-in-Match.result.now (standing_of c.standing.result)
    c.as_slice-in-Match.result.now c.pass_arms.result
    c.in_ok-scrutinee-in-Match.ensures c.get-in-Match.ensures (c.standing.ensures c.args.search.now.program.now c.args.search.now.def)
    c.as_slice-in-Match.ensures c.pass_arms.ensures

use Rattle.px_types.specs.NextOutcome.{constructor_found}
use Rattle.px_types.proofs.Stages.{end_is}
use Rattle.px_types.proofs.Loops.{each_start, each_next, each_fails, each_end}
use Rattle.px_types.proofs.datatypes.type_cons.Goals as goal

pub loop-con-init : goal.loop-con-init
loop-con-init c =
    each_start (constructor_found c.args.program.now c.args.raw.now.tparams) c.args.raw.now.cons c.as_slice-con-items.result.now c.as_slice-con-items.ensures
    c.new-cons.result c.new-cons.ensures

pub returns-in_err-type_con : goal.returns-in_err-type_con
returns-in_err-type_con c =
    end_is _ c.from_residual.result c.in_err-type_con.field-0.0 c.from_residual.ensures.1 (each_fails
    (constructor_found c.args.program.now c.args.raw.now.tparams) c.args.raw.now.cons c.as_slice-con-items.result.now c.as_slice-con-items.ensures
    c.loop-con.con-index c.con-item.result c.loop-con.cons c.in_err-type_con.field-0.0 c.loop-con-test.true c.con-item.is c.in_err-type_con.ensures
    c.loop-con.invariant)

pub loop-con-preserved : goal.loop-con-preserved
loop-con-preserved c =
    each_next (constructor_found c.args.program.now c.args.raw.now.tparams) c.args.raw.now.cons c.as_slice-con-items.result.now c.as_slice-con-items.ensures
    c.loop-con.con-index c.con-item.result c.loop-con.cons c.push.new.self c.in_ok-type_con.field-0 c.loop-con-test.true c.con-item.is c.in_ok-type_con.ensures
    c.in_ok-push.ensures.ok c.loop-con.invariant

pub returns : goal.returns
returns c =
    each_end (constructor_found c.args.program.now c.args.raw.now.tparams) c.args.raw.now.cons c.as_slice-con-items.result.now c.as_slice-con-items.ensures
    c.loop-con.con-index c.loop-con.cons c.loop-con-test.false c.loop-con.invariant

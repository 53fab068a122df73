use Rattle.px_types.specs.NextOutcome.{fn_type_found, fn_types_found}
use Rattle.px_types.proofs.Stages.{end_is}
use Rattle.px_types.proofs.Loops.{each_start, each_next, each_fails, each_end}
use Rattle.px_types.proofs.signatures.type_fn_types.Goals as goal

pub loop-raw-init : goal.loop-raw-init
unfolding fn_types_found
loop-raw-init c =
    each_start (fn_type_found c.args.program.now c.args.tparams) c.args.raws.now c.as_slice-raw-items.result.now c.as_slice-raw-items.ensures c.new-funs.result
    c.new-funs.ensures

pub returns-in_err-type_fn_type : goal.returns-in_err-type_fn_type
unfolding fn_types_found
returns-in_err-type_fn_type c =
    end_is _ c.from_residual.result c.in_err-type_fn_type.field-0.0 c.from_residual.ensures.1 (each_fails (fn_type_found c.args.program.now c.args.tparams)
    c.args.raws.now c.as_slice-raw-items.result.now c.as_slice-raw-items.ensures c.loop-raw.raw-index c.raw-item.result c.loop-raw.funs
    c.in_err-type_fn_type.field-0.0 c.loop-raw-test.true c.raw-item.is c.in_err-type_fn_type.ensures c.loop-raw.invariant)

pub loop-raw-preserved : goal.loop-raw-preserved
unfolding fn_types_found
loop-raw-preserved c =
    each_next (fn_type_found c.args.program.now c.args.tparams) c.args.raws.now c.as_slice-raw-items.result.now c.as_slice-raw-items.ensures
    c.loop-raw.raw-index c.raw-item.result c.loop-raw.funs c.push.new.self c.in_ok-type_fn_type.field-0 c.loop-raw-test.true c.raw-item.is
    c.in_ok-type_fn_type.ensures c.in_ok-push.ensures.ok c.loop-raw.invariant

pub returns : goal.returns
unfolding fn_types_found
returns c =
    each_end (fn_type_found c.args.program.now c.args.tparams) c.args.raws.now c.as_slice-raw-items.result.now c.as_slice-raw-items.ensures c.loop-raw.raw-index
    c.loop-raw.funs c.loop-raw-test.false c.loop-raw.invariant

use Rattle.px_types.proofs.Stages.{end_is}
use Rattle.px_types.proofs.PropSteps.{assumed_next, assumed_fail, assumed_end, left_next}
use Rattle.px_types.proofs.signatures.check_assumed.Goals as goal

pub returns-in_err-check_props : goal.returns-in_err-check_props
returns-in_err-check_props c =
    end_is _ c.from_residual.result c.in_err-check_props.field-0.0 c.from_residual.ensures.1 (assumed_fail c.args.program.now c.args.funs.now c.args.raws.now
    c.loop-raw.raw-index c.raw-item.result c.raw-item.result c.as_slice.result.now c.loop-raw.rest.now c.in_err-check_props.field-0.0 c.loop-raw-test.true
    c.raw-item.is c.as_slice.ensures c.loop-raw.invariant.1 c.in_err-check_props.ensures c.loop-raw.invariant.0)

pub loop-raw-preserved : goal.loop-raw-preserved
loop-raw-preserved c = (
  assumed_next c.args.program.now c.args.funs.now c.args.raws.now c.loop-raw.raw-index c.raw-item.result c.raw-item.result c.as_slice.result.now
      c.loop-raw.rest.now c.in_ok-check_props.field-0 c.loop-raw-test.true c.raw-item.is c.as_slice.ensures c.loop-raw.invariant.1 c.in_ok-check_props.ensures
      c.loop-raw.invariant.0,
  left_next c.args.program.now c.args.funs.now c.loop-raw.raw-index c.loop-raw.rest.now c.behind_first-rest.result.now c.loop-raw.invariant.1
      c.behind_first-rest.ensures,
)

pub returns : goal.returns
returns c = assumed_end c.args.program.now c.args.funs.now c.args.raws.now c.loop-raw.raw-index c.loop-raw-test.false c.loop-raw.invariant.0

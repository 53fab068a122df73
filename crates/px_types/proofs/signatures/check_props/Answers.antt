use Rattle.px_types.proofs.Stages.{end_is}
use Rattle.px_types.proofs.PropSteps.{props_next, props_fail, props_end}
use Rattle.px_types.proofs.signatures.check_props.Goals as goal

pub returns-in_err-check_prop : goal.returns-in_err-check_prop
returns-in_err-check_prop c =
    end_is _ c.from_residual.result c.in_err-check_prop.field-0.0 c.from_residual.ensures.1 (props_fail c.args.program.now c.args.funs.now c.args.head
    c.args.props.now c.loop-written.written-index _ c.in_err-check_prop.field-0.0 c.loop-written-test.true c.in_err-check_prop.ensures
    c.loop-written.invariant)

pub loop-written-preserved : goal.loop-written-preserved
loop-written-preserved c =
    props_next c.args.program.now c.args.funs.now c.args.head c.args.props.now c.loop-written.written-index _ c.in_ok-check_prop.field-0
    c.loop-written-test.true c.in_ok-check_prop.ensures c.loop-written.invariant

pub returns : goal.returns
returns c =
    props_end c.args.program.now c.args.funs.now c.args.head c.args.props.now c.loop-written.written-index c.loop-written-test.false c.loop-written.invariant

use Rattle.px_types.proofs.SaidSteps.{within_fails, within_next, within_end}
use Rattle.px_types.proofs.said.is_within.Goals as goal

pub returns-then-lacks : goal.returns-then-lacks
returns-then-lacks c = within_fails c.args.wanted c.args.known c.loop-prop.prop-index _ c.lacks.result c.loop-prop-test.true c.lacks.ensures c.if-lacks.true

pub loop-prop-preserved : goal.loop-prop-preserved
loop-prop-preserved c =
    within_next c.args.wanted c.args.known c.loop-prop.prop-index _ c.lacks.result c.loop-prop-test.true c.lacks.ensures c.if-lacks.false c.loop-prop.invariant

pub returns : goal.returns
returns c = within_end c.args.wanted c.args.known c.loop-prop.prop-index c.loop-prop-test.false c.loop-prop.invariant

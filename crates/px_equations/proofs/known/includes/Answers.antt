use Rattle.px_equations.proofs.KnownSteps.{includes_start, includes_next, includes_fails, includes_end}
use Rattle.px_equations.proofs.known.includes.Goals as goal

pub loop-prop-init : goal.loop-prop-init
loop-prop-init c = includes_start c.args.set c.args.wanted

pub returns-then-is_missing : goal.returns-then-is_missing
returns-then-is_missing c = includes_fails c.args.set c.args.wanted c.loop-prop.prop-index _ c.is_missing.result c.is_missing.ensures c.if-is_missing.true

pub loop-prop-preserved : goal.loop-prop-preserved
loop-prop-preserved c = includes_next c.args.set c.args.wanted c.loop-prop.prop-index _ c.is_missing.result c.loop-prop-test.true c.is_missing.ensures
    c.if-is_missing.false c.loop-prop.invariant

pub returns : goal.returns
returns c = includes_end c.args.set c.args.wanted c.loop-prop.prop-index c.loop-prop-test.false c.loop-prop.invariant

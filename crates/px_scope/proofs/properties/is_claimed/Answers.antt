use Rattle.std.proofs.Common.{sym}
use Rattle.px_scope.proofs.PropertySteps.{not_claimed_next, claimed_here, not_claimed_all}
use Rattle.px_scope.proofs.properties.is_claimed.Goals as goal

pub loop-other-preserved : goal.loop-other-preserved
loop-other-preserved c = not_claimed_next c.args.claimed.now c.args.prop _ c.loop-other.other-index c.number.result c.number-wanted.result c.loop-other-test.true c.number.ensures c.number-wanted.ensures c.loop-other.invariant c.if-number-wanted.false

pub returns-then-number-wanted : goal.returns-then-number-wanted
returns-then-number-wanted c = sym (claimed_here c.args.claimed.now c.args.prop _ c.loop-other.other-index c.number.result c.number-wanted.result c.loop-other-test.true c.number.ensures c.number-wanted.ensures c.if-number-wanted.true)

pub returns : goal.returns
returns c = sym (not_claimed_all c.args.claimed.now c.args.prop c.loop-other.other-index c.loop-other-test.false c.loop-other.invariant)

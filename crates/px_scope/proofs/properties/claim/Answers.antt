use Rattle.std.proofs.Common.{refl}
use Rattle.px_scope.proofs.PropertySteps.{claims_next, claims_repeat, claims_all}
use Rattle.px_scope.proofs.properties.claim.Goals as goal

pub loop-prop-init : goal.loop-prop-init
loop-prop-init c = record { fine = refl; is = refl }

pub loop-prop-preserved : goal.loop-prop-preserved
loop-prop-preserved c =
    claims_next c.args.claimed.now c.args.props.now c.loop-prop.prop-index _ c.loop-prop.claimed c.push.new.self c.as_slice.result.now c.is_claimed.result c.loop-prop-test.true c.loop-prop.invariant c.as_slice.ensures c.is_claimed.ensures c.if-is_claimed.false c.in_ok-push.ensures.ok

pub returns-then-is_claimed : goal.returns-then-is_claimed
returns-then-is_claimed c = record {
  resolves = claims_repeat c.args.claimed.now c.args.props.now c.loop-prop.prop-index _ c.loop-prop.claimed c.as_slice.result.now c.is_claimed.result c.fault.result c.loop-prop-test.true c.loop-prop.invariant c.as_slice.ensures c.is_claimed.ensures c.if-is_claimed.true c.fault.ensures;
}

pub returns : goal.returns
returns c = record { resolves = claims_all c.args.claimed.now c.args.props.now c.loop-prop.prop-index c.loop-prop.claimed c.loop-prop-test.false c.loop-prop.invariant }

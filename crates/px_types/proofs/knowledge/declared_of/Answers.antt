use Rattle.std.proofs.Common.{refl}
use Rattle.px_types.proofs.TypeOfKnown.{same_item, declared_start, declared_next, declared_end}
use Rattle.px_types.proofs.knowledge.declared_of.Goals as goal

pub loop-obligation-init : goal.loop-obligation-init
loop-obligation-init c = declared_start c.args.number _ c.args.program.now.declared refl

pub loop-obligation-preserved : goal.loop-obligation-preserved
loop-obligation-preserved c = declared_next c.args.number c.loop-obligation.set c.with_declared-set.result c.args.program.now.declared
    c.as_slice-obligation-items.result.now c.as_slice-obligation-items.ensures c.loop-obligation.obligation-index _ c.loop-obligation-test.true
    (same_item _ _ _ _ c.loop-obligation-test.true) c.with_declared-set.ensures c.loop-obligation.invariant

pub returns : goal.returns
returns c = declared_end c.args.number c.loop-obligation.set c.args.program.now.declared c.as_slice-obligation-items.result.now
    c.as_slice-obligation-items.ensures c.loop-obligation.obligation-index c.loop-obligation-test.false c.loop-obligation.invariant

use Rattle.std.proofs.Common.{◌<◌, length}
use Rattle.px_terms.specs.Types.{ty_instance}
use Rattle.px_equations.proofs.AlikeSteps.{become_next}
use Rattle.px_equations.proofs.alike.+becomes.Goals as goal

pub all_become-loop-i-preserved : goal.all_become-loop-i-preserved
all_become-loop-i-preserved t c =
    let below : c.loop-i.i < length c.as_slice-others.result.now = rw (← c.if-tys-others.false) c.loop-i-test.true in
    become_next (ty_instance c.args.types.now) c.as_slice-tys.result.now c.as_slice-others.result.now c.loop-i.i c.index-tys-i.result c.index-others-i.result
    c.becomes.result c.loop-i-test.true below c.index-tys-i.is c.index-others-i.is c.becomes.ensures c.if-not-becomes.false c.loop-i.invariant

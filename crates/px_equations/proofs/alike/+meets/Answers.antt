use Rattle.std.proofs.Common.{◌<◌, length}
use Rattle.px_terms.specs.Types.{ty_instance}
use Rattle.px_equations.proofs.AlikeSteps.{alike_next, alike_fails, fails, con_meets}
use Rattle.px_equations.proofs.alike.+meets.Goals as goal

pub all_meet-returns-then-not-meets : goal.all_meet-returns-then-not-meets
all_meet-returns-then-not-meets t c =
    let below : c.loop-i.i < length c.as_slice-wanted.result.now = rw (← c.if-tys-wanted.false) c.loop-i-test.true in
    rw (← c.as_slice-tys.ensures, ← c.as_slice-wanted.ensures)
    (fails (alike_fails (ty_instance c.args.types.now) (ty_instance c.args.others.now) c.as_slice-tys.result.now c.as_slice-wanted.result.now c.loop-i.i
    c.index-tys-i.result c.index-wanted-i.result c.meets.result c.loop-i-test.true below c.index-tys-i.is c.index-wanted-i.is c.meets.ensures
    c.if-not-meets.true))

pub all_meet-loop-i-preserved : goal.all_meet-loop-i-preserved
all_meet-loop-i-preserved t c =
    let below : c.loop-i.i < length c.as_slice-wanted.result.now = rw (← c.if-tys-wanted.false) c.loop-i-test.true in
    alike_next (ty_instance c.args.types.now) (ty_instance c.args.others.now) c.as_slice-tys.result.now c.as_slice-wanted.result.now c.loop-i.i
    c.index-tys-i.result c.index-wanted-i.result c.meets.result c.loop-i-test.true below c.index-tys-i.is c.index-wanted-i.is c.meets.ensures
    c.if-not-meets.false c.loop-i.invariant

pub meets-returns-then-datatype-number : goal.meets-returns-then-datatype-number
meets-returns-then-datatype-number t c =
    con_meets c.args.types.now c.args.others.now c.args.ty.now c.args.other.now c.in-Con.datatype c.in-Con-other.number c.in-Con.args c.in-Con-other.other_args
    c.all_meet.result c.in-Con.is c.in-Con-other.is c.if-datatype-number.true c.all_meet.ensures

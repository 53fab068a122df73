use Rattle.std.proofs.Common.{◌<◌, ◌≤◌, length, refl, ap}
use Rattle.std.proofs.Common.{map}
use Rattle.px_terms.specs.Types.{fn_type_instance}
use Rattle.px_types.specs.Bounds.{here}
use Rattle.px_types.proofs.TypeOfSteps.{arguments_uneven_map, fit_next, fit_fails, fit_end, end_is, item_map, map_below, map_over}
use Rattle.px_types.proofs.callees.arguments_have.Goals as goal

pub loop-index-init : goal.loop-index-init
loop-index-init c = refl

pub returns-then-given-wanted : goal.returns-then-given-wanted
returns-then-given-wanted c = arguments_uneven_map (fn_type_instance c.args.types.now) (here c.args.scope.now) c.args.funs.now c.args.takes.now
    (rw (c.as_slice-given.ensures, c.as_slice-wanted.ensures) at c.if-given-wanted.true)

pub returns-in_err-argument_has : goal.returns-in_err-argument_has
returns-in_err-argument_has c =
    let below : c.loop-index.index < length c.as_slice-wanted.result.now = rw (← c.if-given-wanted.false) c.loop-index-test.true in
    end_is _ c.from_residual.result c.in_err-argument_has.field-0.0 c.from_residual.ensures.1
    (fit_fails (here c.args.scope.now) c.args.funs.now c.as_slice-given.result.now (map (fn_type_instance c.args.types.now) c.args.takes.now)
    (map (fn_type_instance c.args.types.now) c.as_slice-wanted.result.now) c.as_slice-given.ensures
    (ap (map (fn_type_instance c.args.types.now)) c.as_slice-wanted.ensures) c.loop-index.index c.index-given-index.result
    (fn_type_instance c.args.types.now c.index-wanted-index.result) c.in_err-argument_has.field-0.0 c.loop-index-test.true
    (map_below (fn_type_instance c.args.types.now) c.as_slice-wanted.result.now c.loop-index.index below) c.index-given-index.is
    (item_map (fn_type_instance c.args.types.now) c.as_slice-wanted.result.now c.loop-index.index c.index-wanted-index.result below
    c.index-wanted-index.is) c.in_err-argument_has.ensures c.loop-index.invariant)

pub loop-index-preserved : goal.loop-index-preserved
loop-index-preserved c =
    let below : c.loop-index.index < length c.as_slice-wanted.result.now = rw (← c.if-given-wanted.false) c.loop-index-test.true in
    fit_next (here c.args.scope.now) c.args.funs.now c.as_slice-given.result.now (map (fn_type_instance c.args.types.now) c.args.takes.now)
    (map (fn_type_instance c.args.types.now) c.as_slice-wanted.result.now) c.as_slice-given.ensures
    (ap (map (fn_type_instance c.args.types.now)) c.as_slice-wanted.ensures) c.loop-index.index c.index-given-index.result
    (fn_type_instance c.args.types.now c.index-wanted-index.result) _ c.loop-index-test.true
    (map_below (fn_type_instance c.args.types.now) c.as_slice-wanted.result.now c.loop-index.index below) c.index-given-index.is
    (item_map (fn_type_instance c.args.types.now) c.as_slice-wanted.result.now c.loop-index.index c.index-wanted-index.result below
    c.index-wanted-index.is) c.in_ok-argument_has.ensures c.loop-index.invariant

pub returns : goal.returns
returns c =
    let over : length c.as_slice-wanted.result.now ≤ c.loop-index.index = rw (← c.if-given-wanted.false) c.loop-index-test.false in
    fit_end (here c.args.scope.now) c.args.funs.now c.as_slice-given.result.now (map (fn_type_instance c.args.types.now) c.args.takes.now)
    (map (fn_type_instance c.args.types.now) c.as_slice-wanted.result.now) c.as_slice-given.ensures
    (ap (map (fn_type_instance c.args.types.now)) c.as_slice-wanted.ensures) c.loop-index.index c.loop-index-test.false
    (map_over (fn_type_instance c.args.types.now) c.as_slice-wanted.result.now c.loop-index.index over) c.loop-index.invariant

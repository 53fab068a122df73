use Rattle.std.proofs.Common.{refl}
use Rattle.px_scope.proofs.DataSteps.{no_constructors_yet, constructor_repeats, constructor_added, constructor_fields_fail, constructor_next, constructors_all}
use Rattle.px_scope.proofs.data.resolve_constructors.Goals as goal

pub loop-number-init : goal.loop-number-init
loop-number-init c = no_constructors_yet c.args.text.now c.args.datatype c.args.globals.now c.args.types.now c.args.cons.now c.new-raws.result c.new-raws.ensures

pub returns-then-not-branch : goal.returns-then-not-branch
returns-then-not-branch c = constructor_repeats c.args.text.now c.args.datatype c.args.globals.now c.args.types.now c.args.cons.now c.loop-number.number c.loop-number.globals c.loop-number.raws c.index-cons-number.result c.as_str.result.now c.loop-number-test.true c.index-cons-number.is c.loop-number.invariant c.as_str.ensures c.in_ok-add.field-0 c.in_ok-add.ensures.known c.fault.result c.if-not-branch.true c.fault.ensures

pub returns-in_err-fields : goal.returns-in_err-fields
returns-in_err-fields c =
    constructor_fields_fail c.args.text.now c.args.datatype c.args.globals.now c.args.types.now c.args.cons.now c.loop-number.number c.loop-number.globals c.loop-number.raws c.index-cons-number.result c.as_str.result.now c.loop-number-test.true c.index-cons-number.is c.loop-number.invariant c.as_str.ensures c.in_ok-add.field-0 c.in_ok-add.ensures.known c.if-not-branch.false (record c.loop-number.globals { cons = c.add.new.self; constructors = c.push.new.self }) refl c.as_slice.result.now c.as_slice.ensures _ c.from_residual-in_err-fields.result c.in_err-fields.field-0.0 c.from_residual-in_err-fields.ensures.1 c.in_err-fields.ensures

pub loop-number-preserved : goal.loop-number-preserved
loop-number-preserved c =
    constructor_next c.args.text.now c.args.datatype c.args.globals.now c.args.types.now c.args.cons.now c.loop-number.number c.loop-number.globals c.loop-number.raws c.index-cons-number.result c.as_str.result.now c.loop-number-test.true c.index-cons-number.is c.loop-number.invariant c.as_str.ensures c.in_ok-add.field-0 c.in_ok-add.ensures.known c.if-not-branch.false (record c.loop-number.globals { cons = c.add.new.self; constructors = c.push.new.self }) refl c.as_slice.result.now c.as_slice.ensures c.in_ok-fields.fields _ c.push-in-loop-number.new.self c.in_ok-fields.ensures refl c.in_ok-push-2.ensures.ok (constructor_added c.args.text.now c.args.datatype c.args.globals.now c.args.types.now c.args.cons.now c.loop-number.number c.loop-number.globals c.loop-number.raws c.index-cons-number.result c.as_str.result.now c.loop-number-test.true c.index-cons-number.is c.loop-number.invariant c.as_str.ensures c.in_ok-add.field-0 c.in_ok-add.ensures.known c.if-not-branch.false c.add.new.self c.push.new.self c.in_ok-add.ensures.added c.in_ok-push.ensures.ok)

pub returns : goal.returns
returns c = constructors_all c.args.text.now c.args.datatype c.args.globals.now c.args.types.now c.args.cons.now c.loop-number.number c.loop-number.globals c.loop-number.raws c.loop-number-test.false c.loop-number.invariant

use Rattle.std.proofs.Common.{refl}
use Rattle.px_scope.proofs.ParameterSteps.{type_parameters_next, type_parameter_is_type, type_parameter_repeats, type_parameters_all}
use Rattle.px_scope.proofs.parameters.add_type_parameters.Goals as goal
use Rattle.px_scope.proofs.parameters.add_type_parameters.Goals.{then-has_type-via-then-has_type, then-has_type-via-else-has_type+in_ok-add+then-not-branch}

pub loop-name-init : goal.loop-name-init
loop-name-init c = record { fine = refl; is = refl }

pub loop-name-preserved : goal.loop-name-preserved
loop-name-preserved c =
    type_parameters_next c.args.globals.now c.args.types.now c.args.names.now c.loop-name.name-index c.loop-name.types c.name-item.result c.as_str-text.result.now c.loop-name-test.true c.name-item.is c.loop-name.invariant c.as_str-text.ensures c.has_type.result c.in_ok-add.field-0 c.add.new.self c.has_type.ensures c.if-has_type.false c.in_ok-add.ensures.added c.in_ok-add.ensures.known c.if-not-branch.false

pub returns-then-has_type : goal.returns-then-has_type
returns-then-has_type c =
    elim c.then-has_type.branch [
      | then-has_type-via-then-has_type w ↦ type_parameter_is_type c.args.globals.now c.args.types.now c.args.names.now c.loop-name.name-index c.loop-name.types c.name-item.result c.as_str-text.result.now c.loop-name-test.true c.name-item.is c.loop-name.invariant c.as_str-text.ensures c.has_type.result c.fault.result c.has_type.ensures w.if-has_type.true c.fault.ensures
      | then-has_type-via-else-has_type+in_ok-add+then-not-branch w ↦ type_parameter_repeats c.args.globals.now c.args.types.now c.args.names.now c.loop-name.name-index c.loop-name.types c.name-item.result c.as_str-text.result.now c.loop-name-test.true c.name-item.is c.loop-name.invariant c.as_str-text.ensures c.has_type.result w.in_ok-add.field-0 c.fault.result c.has_type.ensures w.if-has_type.false w.in_ok-add.ensures.known w.if-not-branch.true c.fault.ensures
    ]

pub returns : goal.returns
returns c = type_parameters_all c.args.globals.now c.args.types.now c.args.names.now c.loop-name.name-index c.loop-name.types c.loop-name-test.false c.loop-name.invariant

use Rattle.std.proofs.Common.{refl}
use Rattle.px_scope.proofs.DataSteps.{datatype_added, data_tparams_fail, data_cons_fail, data_fine}
use Rattle.px_scope.proofs.data.resolve_data.Goals as goal

pub returns-in_err-add_type_parameters : goal.returns-in_err-add_type_parameters
returns-in_err-add_type_parameters c =
    data_tparams_fail c.args.text.now c.args.globals.now c.args.declaration.now c.as_str.result.now c.has_type.result c.as_str.ensures c.has_type.ensures c.if-has_type.false (record c.args.globals.now { datatypes = c.add.new.self }) c.new-types.result c.as_slice.result.now (datatype_added c.args.globals.now c.args.declaration.now.name c.as_str.result.now c.as_str-2.result.now c.has_type.result c.in_ok-add.field-0 c.add.new.self c.as_str.ensures c.as_str-2.ensures c.has_type.ensures c.if-has_type.false c.in_ok-add.ensures.known c.in_ok-add.ensures.added) c.new-types.ensures c.as_slice.ensures _ c.from_residual-in_err-add_type_parameters.result c.in_err-add_type_parameters.field-0.0 c.from_residual-in_err-add_type_parameters.ensures.1 c.in_err-add_type_parameters.ensures

pub returns-in_err-cons : goal.returns-in_err-cons
returns-in_err-cons c =
    data_cons_fail c.args.text.now c.args.globals.now c.args.declaration.now c.as_str.result.now c.has_type.result c.as_str.ensures c.has_type.ensures c.if-has_type.false (record c.args.globals.now { datatypes = c.add.new.self }) c.new-types.result c.as_slice.result.now (datatype_added c.args.globals.now c.args.declaration.now.name c.as_str.result.now c.as_str-2.result.now c.has_type.result c.in_ok-add.field-0 c.add.new.self c.as_str.ensures c.as_str-2.ensures c.has_type.ensures c.if-has_type.false c.in_ok-add.ensures.known c.in_ok-add.ensures.added) c.new-types.ensures c.as_slice.ensures c.add_type_parameters.new.types c.len-number.result c.as_slice-2.result.now c.in_ok-add_type_parameters.ensures.0 c.in_ok-add_type_parameters.ensures.1 c.len-number.ensures c.as_slice-2.ensures _ c.from_residual-in_err-cons.result c.in_err-cons.field-0.0 c.from_residual-in_err-cons.ensures.1 c.in_err-cons.ensures

pub returns : goal.returns
returns c =
    data_fine c.args.text.now c.args.globals.now c.args.declaration.now c.as_str.result.now c.has_type.result c.as_str.ensures c.has_type.ensures c.if-has_type.false (record c.args.globals.now { datatypes = c.add.new.self }) c.new-types.result c.as_slice.result.now (datatype_added c.args.globals.now c.args.declaration.now.name c.as_str.result.now c.as_str-2.result.now c.has_type.result c.in_ok-add.field-0 c.add.new.self c.as_str.ensures c.as_str-2.ensures c.has_type.ensures c.if-has_type.false c.in_ok-add.ensures.known c.in_ok-add.ensures.added) c.new-types.ensures c.as_slice.ensures c.add_type_parameters.new.types c.len-number.result c.as_slice-2.result.now c.in_ok-add_type_parameters.ensures.0 c.in_ok-add_type_parameters.ensures.1 c.len-number.ensures c.as_slice-2.ensures c.in_ok-cons.cons c.resolve_constructors.new.globals c.len.result _ c.in_ok-cons.ensures.0 c.in_ok-cons.ensures.1.0 c.in_ok-cons.ensures.1.1 c.len.ensures refl

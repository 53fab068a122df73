use Rattle.px_scope.specs.Answers.{AreBoth}
use Rattle.px_scope.proofs.ParameterSteps.{no_parameters_yet, function_name_fails, function_type_fails, function_next, value_name_fails, value_type_fails, value_next}
use Rattle.px_scope.proofs.parameters.resolve_parameters.Goals as goal
use Rattle.px_scope.proofs.parameters.resolve_parameters.Goals.{in-Function+in_ok-add_function-in-Function+in_ok-resolve_fn_type-in-Function+in_ok-push-in-Function, in-Value+in_ok-add_value-in-Value+in_ok-resolve_type-in-Value+in_ok-push-in-Value}

pub loop-param-init : goal.loop-param-init
loop-param-init c = no_parameters_yet c.args.text.now c.args.globals.now c.args.locals.now c.args.params.now c.new-funs.result c.new-values.result c.requires.functions c.requires.values c.new-funs.ensures c.new-values.ensures

pub returns-in_err-add_function-in-Function-clause-resolves : goal.returns-in_err-add_function-in-Function-clause-resolves
returns-in_err-add_function-in-Function-clause-resolves c =
    function_name_fails c.args.text.now c.args.globals.now c.args.locals.now c.args.params.now c.loop-param.param-index c.loop-param.locals c.loop-param.funs c.loop-param.values c.param-item.result c.loop-param-test.true c.param-item.is c.loop-param.invariant c.in-Function.function c.in-Function.is (AreBoth c.args.globals.now c.args.locals.now.types c.args.params.now) c.from_residual.result c.in_err-add_function-in-Function.field-0.0 c.from_residual.ensures.1 c.in_err-add_function-in-Function.ensures

pub returns-in_err-resolve_fn_type-in-Function-clause-resolves : goal.returns-in_err-resolve_fn_type-in-Function-clause-resolves
returns-in_err-resolve_fn_type-in-Function-clause-resolves c =
    function_type_fails c.args.text.now c.args.globals.now c.args.locals.now c.args.params.now c.loop-param.param-index c.loop-param.locals c.loop-param.funs c.loop-param.values c.param-item.result c.loop-param-test.true c.param-item.is c.loop-param.invariant c.in-Function.function c.in-Function.is c.add_function.new.locals c.in_ok-add_function-in-Function.ensures.0 c.in_ok-add_function-in-Function.ensures.1 (AreBoth c.args.globals.now c.args.locals.now.types c.args.params.now) c.from_residual-in_err-resolve_fn_type-in-Function.result c.in_err-resolve_fn_type-in-Function.field-0.0 c.from_residual-in_err-resolve_fn_type-in-Function.ensures.1 c.in_err-resolve_fn_type-in-Function.ensures

pub returns-in_err-add_value-in-Value-clause-resolves : goal.returns-in_err-add_value-in-Value-clause-resolves
returns-in_err-add_value-in-Value-clause-resolves c =
    value_name_fails c.args.text.now c.args.globals.now c.args.locals.now c.args.params.now c.loop-param.param-index c.loop-param.locals c.loop-param.funs c.loop-param.values c.param-item.result c.loop-param-test.true c.param-item.is c.loop-param.invariant c.in-Value.ty c.in-Value.is (AreBoth c.args.globals.now c.args.locals.now.types c.args.params.now) c.from_residual-in_err-add_value-in-Value.result c.in_err-add_value-in-Value.field-0.0 c.from_residual-in_err-add_value-in-Value.ensures.1 c.in_err-add_value-in-Value.ensures

pub returns-in_err-resolve_type-in-Value-clause-resolves : goal.returns-in_err-resolve_type-in-Value-clause-resolves
returns-in_err-resolve_type-in-Value-clause-resolves c =
    value_type_fails c.args.text.now c.args.globals.now c.args.locals.now c.args.params.now c.loop-param.param-index c.loop-param.locals c.loop-param.funs c.loop-param.values c.param-item.result c.loop-param-test.true c.param-item.is c.loop-param.invariant c.in-Value.ty c.in-Value.is c.add_value.new.locals c.in_ok-add_value-in-Value.ensures.0 c.in_ok-add_value-in-Value.ensures.1 (AreBoth c.args.globals.now c.args.locals.now.types c.args.params.now) c.from_residual-in_err-resolve_type-in-Value.result c.in_err-resolve_type-in-Value.field-0.0 c.from_residual-in_err-resolve_type-in-Value.ensures.1 c.in_err-resolve_type-in-Value.ensures

pub loop-param-preserved : goal.loop-param-preserved
loop-param-preserved c =
    elim c.match-param.branch [
      | in-Function+in_ok-add_function-in-Function+in_ok-resolve_fn_type-in-Function+in_ok-push-in-Function w ↦
          rw (w.locals-is, w.funs-is, w.values-is) (function_next c.args.text.now c.args.globals.now c.args.locals.now c.args.params.now c.loop-param.param-index c.loop-param.locals c.loop-param.funs c.loop-param.values c.param-item.result c.loop-param-test.true c.param-item.is c.loop-param.invariant w.in-Function.function w.in-Function.is w.add_function.new.locals w.in_ok-add_function-in-Function.ensures.0 w.in_ok-add_function-in-Function.ensures.1 w.in_ok-resolve_fn_type-in-Function.field-0 w.push.new.self w.in_ok-resolve_fn_type-in-Function.ensures w.in_ok-push-in-Function.ensures.ok)
      | in-Value+in_ok-add_value-in-Value+in_ok-resolve_type-in-Value+in_ok-push-in-Value w ↦
          rw (w.locals-is, w.funs-is, w.values-is) (value_next c.args.text.now c.args.globals.now c.args.locals.now c.args.params.now c.loop-param.param-index c.loop-param.locals c.loop-param.funs c.loop-param.values c.param-item.result c.loop-param-test.true c.param-item.is c.loop-param.invariant w.in-Value.ty w.in-Value.is w.add_value.new.locals w.in_ok-add_value-in-Value.ensures.0 w.in_ok-add_value-in-Value.ensures.1 w.in_ok-resolve_type-in-Value.field-0 w.push-in-Value.new.self w.in_ok-resolve_type-in-Value.ensures w.in_ok-push-in-Value.ensures.ok)
    ]

use Rattle.px_scope.specs.Programs.{IsFnType}
use Rattle.px_scope.proofs.ParameterSteps.{fn_type_params_fail, fn_type_result_fails, fn_type_props_fail, fn_type_fine}
use Rattle.px_scope.proofs.parameters.resolve_fn_type.Goals as goal

pub returns-in_err-params : goal.returns-in_err-params
returns-in_err-params c =
    fn_type_params_fail c.args.text.now c.args.globals.now c.args.types.now c.args.function.now (IsFnType c.args.globals.now c.args.types.now c.args.function.now) c.as_slice.result.now c.from_residual.result c.in_err-params.field-0.0 c.from_residual.ensures.1 c.as_slice.ensures c.in_err-params.ensures

pub returns-in_err-result : goal.returns-in_err-result
returns-in_err-result c =
    fn_type_result_fails c.args.text.now c.args.globals.now c.args.types.now c.args.function.now (IsFnType c.args.globals.now c.args.types.now c.args.function.now) c.as_slice.result.now c.from_residual-in_err-result.result c.in_err-result.field-0.0 c.from_residual-in_err-result.ensures.1 c.as_slice.ensures c.in_ok-params.ensures.0 c.in_err-result.ensures

pub returns-in_err-claim : goal.returns-in_err-claim
returns-in_err-claim c =
    fn_type_props_fail c.args.text.now c.args.globals.now c.args.types.now c.args.function.now (IsFnType c.args.globals.now c.args.types.now c.args.function.now) c.as_slice.result.now c.new.result c.as_slice-2.result.now c.from_residual-in_err-claim.result c.in_err-claim.field-0.0 c.from_residual-in_err-claim.ensures.1 c.as_slice.ensures c.in_ok-params.ensures.0 c.in_ok-result.ensures.0 c.new.ensures c.as_slice-2.ensures c.in_err-claim.ensures.resolves

pub returns : goal.returns
returns c =
    fn_type_fine c.args.text.now c.args.globals.now c.args.types.now c.args.function.now c.as_slice.result.now c.in_ok-params.params c.in_ok-result.result c.new.result c.as_slice-2.result.now c.as_slice-3.result.now c.in_ok-props.props c.as_slice.ensures c.in_ok-params.ensures c.in_ok-result.ensures c.new.ensures c.as_slice-2.ensures c.in_ok-claim.ensures.resolves.0 c.as_slice-3.ensures c.in_ok-props.ensures.is

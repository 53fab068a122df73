use Rattle.std.proofs.Common.{refl, ap, ◌∙◌}
use Rattle.px_scope.specs.Declaring.{function_count}
use Rattle.px_scope.proofs.DefinitionSteps.{opened, definition_heading_fails, definition_result_fails, definition_props_fail, definition_body_fails, definition_fine}
use Rattle.px_scope.proofs.declarations.resolve_definition.Goals as goal

pub returns-in_err-locals : goal.returns-in_err-locals
returns-in_err-locals c =
    definition_heading_fails c.args.text.now c.args.globals.now c.args.definition.now c.in_ok-check_new.ensures.0 _ c.from_residual-in_err-locals.result c.in_err-locals.field-0.0 c.from_residual-in_err-locals.ensures.1 c.as_slice.result.now c.as_slice-2.result.now c.as_slice.ensures c.as_slice-2.ensures c.in_err-locals.ensures

pub returns-in_err-result : goal.returns-in_err-result
returns-in_err-result c =
    definition_result_fails c.args.text.now c.args.globals.now c.args.definition.now c.in_ok-check_new.ensures.0 c.in_ok-locals.field-0.locals c.in_ok-locals.field-0.params c.as_slice.result.now c.as_slice-2.result.now c.as_slice.ensures c.as_slice-2.ensures c.in_ok-locals.ensures.0
    (opened c.args.globals.now c.as_slice.result.now c.as_slice-2.result.now c.in_ok-locals.field-0 c.in_ok-locals.field-0.locals c.in_ok-locals.field-0.params refl refl c.in_ok-locals.ensures.1)
    _ c.from_residual-in_err-result.result c.in_err-result.field-0.0 c.from_residual-in_err-result.ensures.1 c.in_err-result.ensures

pub returns-in_err-claim : goal.returns-in_err-claim
returns-in_err-claim c =
    definition_props_fail c.args.text.now c.args.globals.now c.args.definition.now c.in_ok-check_new.ensures.0 c.in_ok-locals.field-0.locals c.in_ok-locals.field-0.params c.as_slice.result.now c.as_slice-2.result.now c.as_slice.ensures c.as_slice-2.ensures c.in_ok-locals.ensures.0
    (opened c.args.globals.now c.as_slice.result.now c.as_slice-2.result.now c.in_ok-locals.field-0 c.in_ok-locals.field-0.locals c.in_ok-locals.field-0.params refl refl c.in_ok-locals.ensures.1)
    c.in_ok-result.ensures.0
    _ c.from_residual-in_err-claim.result c.in_err-claim.field-0.0 c.from_residual-in_err-claim.ensures.1 c.new-claimed.result c.as_slice-3.result.now c.new-claimed.ensures c.as_slice-3.ensures c.in_err-claim.ensures.resolves

pub returns-in_err-body : goal.returns-in_err-body
returns-in_err-body c =
    definition_body_fails c.args.text.now c.args.globals.now c.args.definition.now c.in_ok-check_new.ensures.0 c.in_ok-locals.field-0.locals c.in_ok-locals.field-0.params c.as_slice.result.now c.as_slice-2.result.now c.as_slice.ensures c.as_slice-2.ensures c.in_ok-locals.ensures.0
    (opened c.args.globals.now c.as_slice.result.now c.as_slice-2.result.now c.in_ok-locals.field-0 c.in_ok-locals.field-0.locals c.in_ok-locals.field-0.params refl refl c.in_ok-locals.ensures.1)
    c.in_ok-result.ensures.0
    c.new-claimed.result c.as_slice-3.result.now c.new-claimed.ensures c.as_slice-3.ensures c.in_ok-claim.ensures.resolves.0
    c.declare.new.globals c.len-number.result c.count_functions-functions.result c.len-number.ensures (c.count_functions-functions.ensures ∙ ap function_count c.as_slice-4.ensures) c.in_ok-declare.ensures.declared
    _ c.from_residual-in_err-body.result c.in_err-body.field-0.0 c.from_residual-in_err-body.ensures.1 c.in_err-body.ensures.resolves

pub returns : goal.returns
returns c =
    definition_fine c.args.text.now c.args.globals.now c.args.definition.now c.in_ok-check_new.ensures.0 c.in_ok-locals.field-0.locals c.in_ok-locals.field-0.params c.as_slice.result.now c.as_slice-2.result.now c.as_slice.ensures c.as_slice-2.ensures c.in_ok-locals.ensures.0
    (opened c.args.globals.now c.as_slice.result.now c.as_slice-2.result.now c.in_ok-locals.field-0 c.in_ok-locals.field-0.locals c.in_ok-locals.field-0.params refl refl c.in_ok-locals.ensures.1)
    c.in_ok-result.ensures.0
    c.new-claimed.result c.as_slice-3.result.now c.new-claimed.ensures c.as_slice-3.ensures c.in_ok-claim.ensures.resolves.0
    c.declare.new.globals c.len-number.result c.count_functions-functions.result c.len-number.ensures (c.count_functions-functions.ensures ∙ ap function_count c.as_slice-4.ensures) c.in_ok-declare.ensures.declared
    c.in_ok-result.result c.in_ok-body.body c.claim.new.claimed c.in_ok-copy_props.field-0 c.len.result _ c.in_ok-result.ensures.1 c.in_ok-body.ensures.resolves c.in_ok-claim.ensures.resolves.1 (c.in_ok-copy_props.ensures.is ∙ c.as_slice-5.ensures) c.len.ensures (ap (λ xs. record c.declare.new.globals { claimed = xs }) c.in_ok-push.ensures.ok)

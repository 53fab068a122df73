use Rattle.px_scope.specs.Answers.{IsHeading}
use Rattle.px_scope.proofs.DeclarationSteps.{heading_fails_early, heading_fails_late, heading_fine}
use Rattle.px_scope.proofs.declarations.resolve_heading.Goals as goal

pub returns-in_err-add_type_parameters : goal.returns-in_err-add_type_parameters
returns-in_err-add_type_parameters c =
    heading_fails_early c.args.text.now c.args.globals.now c.args.tparams.now c.args.params.now c.new-locals.result c.new-locals.ensures (IsHeading c.args.globals.now c.args.tparams.now c.args.params.now) c.from_residual.result c.in_err-add_type_parameters.field-0.0 c.from_residual.ensures.1 c.in_err-add_type_parameters.ensures

pub returns-in_err-params : goal.returns-in_err-params
returns-in_err-params c =
    heading_fails_late c.args.text.now c.args.globals.now c.args.tparams.now c.args.params.now c.new-locals.result c.new-locals.ensures c.add_type_parameters.new.types c.in_ok-add_type_parameters.ensures.0 c.in_ok-add_type_parameters.ensures.1 (IsHeading c.args.globals.now c.args.tparams.now c.args.params.now) c.from_residual-in_err-params.result c.in_err-params.field-0.0 c.from_residual-in_err-params.ensures.1 c.in_err-params.ensures.resolves

pub returns : goal.returns
returns c =
    heading_fine c.args.text.now c.args.globals.now c.args.tparams.now c.args.params.now c.new-locals.result c.new-locals.ensures c.add_type_parameters.new.types c.in_ok-add_type_parameters.ensures.0 c.in_ok-add_type_parameters.ensures.1 c.in_ok-params.params c.resolve_parameters.new.locals c.in_ok-params.ensures.resolves c.in_ok-params.ensures.locals

use Rattle.px_terms.specs.Types.{tys_instance, ty_instance}
use Rattle.px_equations.proofs.FunctionSteps.{definition_is, takes_others, comparison_is, variable_is}
use Rattle.px_equations.proofs.functions.is_function.Goals as goal

pub returns-then-takes_types : goal.returns-then-takes_types
returns-then-takes_types c =
    definition_is c.args.program.now c.args.filling.now.context.now c.args.fun.now (tys_instance c.args.filling.now.sigma.now.types c.args.wanted.now.params)
    (ty_instance c.args.filling.now.sigma.now.types c.args.wanted.now.result) c.in-Def.number c.in-Some.def.now c.as_slice.result.now
    c.in-Def.is c.as_slice.ensures c.in-Some.ensures c.is_definition.result (c.takes_types.ensures.0 c.if-takes_types.true) c.is_definition.ensures

pub returns-else-takes_types : goal.returns-else-takes_types
returns-else-takes_types c =
    takes_others c.args.program.now c.args.filling.now.context.now c.args.fun.now (tys_instance c.args.filling.now.sigma.now.types c.args.wanted.now.params)
    (ty_instance c.args.filling.now.sigma.now.types c.args.wanted.now.result) c.in-Def.number c.in-Some.def.now c.as_slice.result.now
    c.in-Def.is c.as_slice.ensures c.in-Some.ensures c.takes_types.result c.takes_types.ensures c.if-takes_types.false

pub returns-then-is_empty-2 : goal.returns-then-is_empty-2
returns-then-is_empty-2 c =
    variable_is c.args.program.now c.args.filling.now.context.now c.args.fun.now (tys_instance c.args.filling.now.sigma.now.types c.args.wanted.now.params)
    (ty_instance c.args.filling.now.sigma.now.types c.args.wanted.now.result) c.in-FnVar.number c.in-Some-at.own.now c.as_slice-in-FnVar.result.now
    c.is_variable.result c.in-FnVar.is c.as_slice-in-FnVar.ensures c.in-Some-at.ensures (c.is_empty-in-Some-at.ensures.0 c.if-is_empty-2.true)
    c.is_variable.ensures

pub returns-then-is_empty : goal.returns-then-is_empty
returns-then-is_empty c =
    comparison_is c.args.program.now c.args.filling.now.context.now c.args.fun.now (tys_instance c.args.filling.now.sigma.now.types c.args.wanted.now.params)
    (ty_instance c.args.filling.now.sigma.now.types c.args.wanted.now.result) c.is_comparison.result c.in-Wle.is (c.is_empty.ensures.0 c.if-is_empty.true)
    c.is_comparison.ensures

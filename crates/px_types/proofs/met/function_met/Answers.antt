use Rattle.px_types.specs.Envs.{env_of}
use Rattle.px_types.proofs.MetSteps.{result_unmet, param_unmet, all_params_met}
use Rattle.px_types.proofs.met.function_met.Goals as goal

pub returns-then-not-instance_met : goal.returns-then-not-instance_met
returns-then-not-instance_met c = result_unmet (env_of c.args.env.now) c.args.types.now c.args.params.now c.args.result_type.now c.if-not-instance_met.ensures

pub returns-then-not-instance_met-2 : goal.returns-then-not-instance_met-2
returns-then-not-instance_met-2 c =
    param_unmet (env_of c.args.env.now) c.args.types.now c.args.params.now c.args.result_type.now c.as_slice-ty-items.result.now c.loop-ty.ty-index
    c.ty-item.result c.as_slice-ty-items.ensures c.loop-ty-test.true c.ty-item.is c.if-not-instance_met-2.ensures

pub returns : goal.returns
returns c =
    all_params_met (env_of c.args.env.now) c.args.types.now c.args.params.now c.args.result_type.now c.as_slice-ty-items.result.now c.loop-ty.ty-index
    c.as_slice-ty-items.ensures c.loop-ty-test.false c.if-not-instance_met.ensures c.loop-ty.invariant

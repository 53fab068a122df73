use Rattle.px_types.specs.Envs.{env_of}
use Rattle.px_types.specs.NextOutcome.{equation_found}
use Rattle.px_types.proofs.Stages.{end_is}
use Rattle.px_types.proofs.Loops.{each_start, each_next, each_fails, each_end}
use Rattle.px_types.proofs.lemmas.type_equations.Goals as goal

pub loop-raw-init : goal.loop-raw-init
loop-raw-init c =
    each_start (equation_found (env_of c.args.env.now)) c.args.raws.now c.as_slice-raw-items.result.now c.as_slice-raw-items.ensures c.new-equations.result
    c.new-equations.ensures

pub returns-in_err-type_equation : goal.returns-in_err-type_equation
returns-in_err-type_equation c =
    end_is _ c.from_residual.result c.in_err-type_equation.field-0.0 c.from_residual.ensures.1 (each_fails (equation_found (env_of c.args.env.now))
    c.args.raws.now c.as_slice-raw-items.result.now c.as_slice-raw-items.ensures c.loop-raw.raw-index c.raw-item.result c.loop-raw.equations
    c.in_err-type_equation.field-0.0 c.loop-raw-test.true c.raw-item.is c.in_err-type_equation.ensures c.loop-raw.invariant)

pub loop-raw-preserved : goal.loop-raw-preserved
loop-raw-preserved c =
    each_next (equation_found (env_of c.args.env.now)) c.args.raws.now c.as_slice-raw-items.result.now c.as_slice-raw-items.ensures c.loop-raw.raw-index
    c.raw-item.result c.loop-raw.equations c.push.new.self c.in_ok-type_equation.field-0 c.loop-raw-test.true c.raw-item.is c.in_ok-type_equation.ensures
    c.in_ok-push.ensures.ok c.loop-raw.invariant

pub returns : goal.returns
returns c =
    each_end (equation_found (env_of c.args.env.now)) c.args.raws.now c.as_slice-raw-items.result.now c.as_slice-raw-items.ensures c.loop-raw.raw-index
    c.loop-raw.equations c.loop-raw-test.false c.loop-raw.invariant

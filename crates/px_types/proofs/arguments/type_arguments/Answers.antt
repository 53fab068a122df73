use Rattle.std.proofs.Common.{map}
use Rattle.px_terms.specs.Types.{fn_type_instance}
use Rattle.px_types.specs.Envs.{env_of}
use Rattle.px_types.specs.Outcome.{argument_found, arguments_found}
use Rattle.px_types.proofs.Stages.{end_is}
use Rattle.px_types.proofs.TwoLoops.{two_start, two_next, two_fails, two_end, two_short, mapped_at, mapped_past}
use Rattle.px_types.proofs.arguments.type_arguments.Goals as goal

pub loop-number-init : goal.loop-number-init
loop-number-init c =
    two_start (argument_found (env_of c.args.env.now)) c.args.raws.now c.as_slice-raw-items.result.now
    (map (fn_type_instance c.args.types.now) c.args.takes.now) c.as_slice-raw-items.ensures c.new-funs.result c.new-funs.ensures

pub returns-in_default : goal.returns-in_default
unfolding arguments_found
returns-in_default c =
    two_short (argument_found (env_of c.args.env.now)) c.args.raws.now c.as_slice-raw-items.result.now
    (map (fn_type_instance c.args.types.now) c.args.takes.now) c.as_slice-raw-items.ensures c.loop-number.number c.loop-number.funs
    (mapped_past (fn_type_instance c.args.types.now) c.args.takes.now c.as_slice.result.now c.loop-number.number c.as_slice.ensures c.in_default.ensures)
    c.loop-number.invariant

pub returns-in_err-type_argument : goal.returns-in_err-type_argument
unfolding arguments_found
returns-in_err-type_argument c =
    end_is _ c.from_residual.result c.in_err-type_argument.field-0.0 c.from_residual.ensures.1
    (two_fails (argument_found (env_of c.args.env.now)) c.args.raws.now c.as_slice-raw-items.result.now
    (map (fn_type_instance c.args.types.now) c.args.takes.now) c.as_slice-raw-items.ensures c.loop-number.number c.raw-item.result _ c.loop-number.funs
    c.in_err-type_argument.field-0.0 c.loop-number-test.true c.raw-item.is
    (mapped_at (fn_type_instance c.args.types.now) c.args.takes.now c.as_slice.result.now c.loop-number.number c.in-Some.fun.now c.as_slice.ensures
    c.in-Some.ensures) c.in_err-type_argument.ensures c.loop-number.invariant)

pub loop-number-preserved : goal.loop-number-preserved
loop-number-preserved c =
    two_next (argument_found (env_of c.args.env.now)) c.args.raws.now c.as_slice-raw-items.result.now (map (fn_type_instance c.args.types.now) c.args.takes.now)
    c.as_slice-raw-items.ensures c.loop-number.number c.raw-item.result _ c.loop-number.funs c.push.new.self c.in_ok-type_argument.field-0
    c.loop-number-test.true c.raw-item.is (mapped_at (fn_type_instance c.args.types.now) c.args.takes.now c.as_slice.result.now c.loop-number.number
    c.in-Some.fun.now c.as_slice.ensures c.in-Some.ensures) c.in_ok-type_argument.ensures c.in_ok-push.ensures.ok c.loop-number.invariant

pub returns : goal.returns
unfolding arguments_found
returns c =
    two_end (argument_found (env_of c.args.env.now)) c.args.raws.now c.as_slice-raw-items.result.now (map (fn_type_instance c.args.types.now) c.args.takes.now)
    c.as_slice-raw-items.ensures c.loop-number.number c.loop-number.funs c.loop-number-test.false c.loop-number.invariant

use Rattle.std.proofs.Common.{[], ◌∷◌, ◌++◌, get_or, refl}
use Rattle.px_terms.specs.Types.{ty_instance}
use Rattle.px_types.specs.Answers.{EndsAs}
use Rattle.px_types.specs.Envs.{env_of, tys_of}
use Rattle.px_types.specs.Outcomes.{each_two}
use Rattle.px_types.specs.Outcome.{variable_met}
use Rattle.px_types.proofs.TwoLoops.{two_start, two_next, two_fails, two_end, two_short, mapped_at, mapped_past, ends_in, same_item}
use Rattle.px_types.proofs.arms.variables_met.Goals as goal

pub loop-number-init : goal.loop-number-init
loop-number-init c = (
  [],
  two_start (variable_met (env_of c.args.env.now)) c.args.vars.now c.as_slice-var-items.result.now (tys_of c.args.fields.now)
      c.as_slice-var-items.ensures [] refl,
)

pub returns-in_default : goal.returns-in_default
returns-in_default c = (
  c.loop-number.invariant.0,
  two_short (variable_met (env_of c.args.env.now)) c.args.vars.now c.as_slice-var-items.result.now (tys_of c.args.fields.now)
      c.as_slice-var-items.ensures c.loop-number.number c.loop-number.invariant.0
      (mapped_past (ty_instance c.args.fields.now.types.now) c.args.fields.now.tys.now c.as_slice.result.now c.loop-number.number c.as_slice.ensures
      c.in_default.ensures) c.loop-number.invariant.1,
)

pub returns-in_err-need : goal.returns-in_err-need
unfolding variable_met
returns-in_err-need c =
    ends_in _ (EndsAs (each_two (variable_met (env_of c.args.env.now)) c.args.vars.now (tys_of c.args.fields.now))) c.from_residual.result
    c.in_err-need.field-0.0 c.from_residual.ensures.1
    (two_fails (variable_met (env_of c.args.env.now)) c.args.vars.now c.as_slice-var-items.result.now (tys_of c.args.fields.now) c.as_slice-var-items.ensures
    c.loop-number.number (get_or c.as_slice-var-items.result.now c.loop-number.number 0) (ty_instance c.args.fields.now.types.now c.in-Some.ty.now)
    c.loop-number.invariant.0 c.in_err-need.field-0.0 c.loop-number-test.true
    (same_item c.as_slice-var-items.result.now c.loop-number.number 0 _ c.loop-number-test.true)
    (mapped_at (ty_instance c.args.fields.now.types.now) c.args.fields.now.tys.now c.as_slice.result.now c.loop-number.number c.in-Some.ty.now
    c.as_slice.ensures c.in-Some.ensures) (rw (← c.instance_met.ensures) c.in_err-need.ensures) c.loop-number.invariant.1)

pub loop-number-preserved : goal.loop-number-preserved
unfolding variable_met
loop-number-preserved c = (
  c.loop-number.invariant.0 ++ c.in_ok-need.field-0 ∷ [],
  two_next (variable_met (env_of c.args.env.now)) c.args.vars.now c.as_slice-var-items.result.now
      (tys_of c.args.fields.now) c.as_slice-var-items.ensures c.loop-number.number (get_or c.as_slice-var-items.result.now c.loop-number.number 0)
      (ty_instance c.args.fields.now.types.now c.in-Some.ty.now) c.loop-number.invariant.0 (c.loop-number.invariant.0 ++ c.in_ok-need.field-0 ∷ [])
      c.in_ok-need.field-0 c.loop-number-test.true (same_item c.as_slice-var-items.result.now c.loop-number.number 0 _ c.loop-number-test.true)
      (mapped_at (ty_instance c.args.fields.now.types.now) c.args.fields.now.tys.now c.as_slice.result.now c.loop-number.number c.in-Some.ty.now
      c.as_slice.ensures c.in-Some.ensures) (rw (← c.instance_met.ensures) c.in_ok-need.ensures) refl c.loop-number.invariant.1,
)

pub returns : goal.returns
returns c = (
  c.loop-number.invariant.0,
  two_end (variable_met (env_of c.args.env.now)) c.args.vars.now c.as_slice-var-items.result.now (tys_of c.args.fields.now)
      c.as_slice-var-items.ensures c.loop-number.number c.loop-number.invariant.0 c.loop-number-test.false c.loop-number.invariant.1,
)

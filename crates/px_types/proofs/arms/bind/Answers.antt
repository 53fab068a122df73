use Rattle.std.proofs.Common.{List, ◌∙◌, ap}
use Rattle.px_terms.specs.declared.types.Ty.{Ty}
use Rattle.px_terms.specs.Types.{ty_instance}
use Rattle.px_types.proofs.ArmSteps.{bound_next}
use Rattle.px_types.proofs.arms.bind.Goals as goal

pub loop-ty-preserved : goal.loop-ty-preserved
loop-ty-preserved c =
    bound_next (ty_instance c.args.fields.now.types.now) c.args.bound.now c.loop-ty.bound c.push.new.self c.as_slice-ty-items.result.now c.loop-ty.ty-index
    c.ty-item.result c.in_ok-instance_of_ty.field-0 c.loop-ty-test.true c.ty-item.is
    (c.in_ok-instance_of_ty.ensures ∙ ap (λ (types : List Ty). ty_instance types c.ty-item.result) c.as_slice.ensures) c.in_ok-push.ensures.ok
    c.loop-ty.invariant

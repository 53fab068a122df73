use Rattle.px_cases.proofs.Fields.{field_pushed}
use Rattle.px_cases.proofs.shapes.push_fields.Goals as goal

pub loop-field-preserved : goal.loop-field-preserved
loop-field-preserved c = field_pushed c.args.shape.now.args.now c.as_slice.result.now c.args.shape.now.constructor.now.fields c.as_slice-field-items.result.now c.loop-field.field-index c.field-item.result c.in_ok-instance_of_ty.field-0 c.args.vars.now c.loop-field.vars c.push.new.self c.as_slice-field-items.ensures c.as_slice.ensures c.loop-field-test.true c.field-item.is c.in_ok-instance_of_ty.ensures c.loop-field.invariant c.in_ok-push.ensures.ok

use Rattle.std.proofs.Common.{arith}
use Rattle.px_machine.proofs.CellSteps.{counted_more, counted_bound, lacks_fields, counted_all}
use Rattle.px_machine.proofs.cells.is_value.Goals as goal

pub returns-then-values-fields : goal.returns-then-values-fields
returns-then-values-fields c =
    (λ no. absurd cc, λ whole. absurd (lacks_fields c.args.cells.now c.loop-at.at c.loop-at.values c.fields_of-fields.result _ c.loop-at-test.true c.loop-at.auto.at c.fields_of-fields.ensures c.loop-at.invariant c.if-values-fields.true whole))

pub overflow_add-values : goal.overflow_add-values
overflow_add-values c = let h = counted_bound c.args.cells.now c.loop-at.at c.loop-at.values c.fields_of-fields.result _ c.loop-at-test.true c.loop-at.auto.at c.fields_of-fields.ensures c.loop-at.invariant c.if-values-fields.false in omega arith

pub loop-at-preserved : goal.loop-at-preserved
loop-at-preserved c = counted_more c.args.cells.now c.loop-at.at c.loop-at.values c.fields_of-fields.result _ c.loop-at-test.true c.loop-at.auto.at c.fields_of-fields.ensures c.loop-at.invariant c.if-values-fields.false

pub returns : goal.returns
returns c = counted_all c.args.cells.now c.loop-at.at c.loop-at.values c.loop-at-test.false c.loop-at.invariant

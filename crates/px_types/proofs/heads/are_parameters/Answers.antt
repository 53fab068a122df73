use Rattle.std.proofs.Common.{sym, ◌∙◌}
use Rattle.px_types.proofs.HeadSteps.{own_miscounted, own_fails, own_next, own_end}
use Rattle.px_types.proofs.heads.are_parameters.Goals as goal

pub returns-then-len-count : goal.returns-then-len-count
returns-then-len-count c = own_miscounted c.args.types.now c.args.count (λ e. c.if-len-count.true (c.len.ensures ∙ e))

pub returns-then-not-is_parameter : goal.returns-then-not-is_parameter
returns-then-not-is_parameter c =
    own_fails c.args.types.now c.as_slice-ty-items.result.now c.args.count c.as_slice-ty-items.ensures c.loop-number.number c.ty-item.result
    c.is_parameter.result (sym c.len.ensures ∙ c.if-len-count.false) c.loop-number-test.true c.ty-item.is c.is_parameter.ensures c.if-not-is_parameter.true

pub loop-number-preserved : goal.loop-number-preserved
loop-number-preserved c =
    own_next c.args.types.now c.as_slice-ty-items.result.now c.args.count c.as_slice-ty-items.ensures c.loop-number.number c.ty-item.result
    c.is_parameter.result c.loop-number-test.true c.ty-item.is c.is_parameter.ensures c.if-not-is_parameter.false c.loop-number.invariant

pub returns : goal.returns
returns c =
    own_end c.args.types.now c.as_slice-ty-items.result.now c.args.count c.as_slice-ty-items.ensures c.loop-number.number
    (sym c.len.ensures ∙ c.if-len-count.false) c.loop-number-test.false c.loop-number.invariant

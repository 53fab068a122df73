use Rattle.px_types.proofs.Stages.{end_is}
use Rattle.px_types.proofs.OrderSteps.{item_at, so_far_start, so_far_next, order_fails, order_ends}
use Rattle.px_types.proofs.programs.check_order.Goals as goal

pub loop-number-init : goal.loop-number-init
loop-number-init c = so_far_start c.args.raw.now c.requires c.in_ok-checking.checking c.in_ok-checking.ensures

pub returns-in_err-take_next : goal.returns-in_err-take_next
returns-in_err-take_next c =
    let raw = c.args.raw.now in
    let here = item_at raw.order c.loop-number.number (rw c.len-number-end.ensures at c.loop-number-test.true) in
    end_is _ c.from_residual-in_err-take_next.result c.in_err-take_next.field-0.0 c.from_residual-in_err-take_next.ensures.1
    (order_fails raw c.requires c.loop-number.checking c.loop-number.number here c.loop-number.invariant c.in_err-take_next.field-0.0
    (c.in_err-take_next.ensures here.item here.stands))

pub loop-number-preserved : goal.loop-number-preserved
loop-number-preserved c =
    let raw = c.args.raw.now in
    let here = item_at raw.order c.loop-number.number (rw c.len-number-end.ensures at c.loop-number-test.true) in
    so_far_next raw c.requires c.loop-number.checking c.loop-number.number here c.loop-number.invariant c.take_next.new.checking
    (c.in_ok-take_next.ensures here.item here.stands)

pub returns : goal.returns
returns c =
    order_ends c.args.raw.now c.requires c.loop-number.checking c.loop-number.number (rw c.len-number-end.ensures at c.loop-number-test.false)
    c.loop-number.invariant

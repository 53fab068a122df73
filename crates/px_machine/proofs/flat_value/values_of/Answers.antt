use Rattle.std.proofs.Common.{arith, ◌≡◌, ◌+◌, ◌<◌, length}
use Rattle.px_machine.proofs.FlatSteps.{gathered_none, gathered_more, gathered_all, first_is_value, not_empty, empty}
use Rattle.px_machine.proofs.flat_value.values_of.Goals as goal

pub loop-rest-init : goal.loop-rest-init
loop-rest-init c = gathered_none c.args.cells.now c.new-values.result c.requires c.new-values.ensures

pub loop-rest-preserved : goal.loop-rest-preserved
loop-rest-preserved c =
    gathered_more c.args.cells.now c.loop-rest.rest.now c.split_at.result.0.now c.split_at.result.1.now c.in_ok-from_slice.field-0 c.loop-rest.values c.push.new.self c.first_end.result
    c.split_at.ensures.front c.split_at.ensures.back c.in_ok-from_slice.ensures (not_empty c.loop-rest.rest.now c.is_empty.result c.is_empty.ensures c.loop-rest-test.true) c.first_end.ensures
    c.loop-rest.invariant c.in_ok-push.ensures.ok

pub loop-rest-smaller : goal.loop-rest-smaller
loop-rest-smaller c =
    let some : 0 < c.first_end.result = c.first_end.ensures.some in
    let both : length c.split_at.result.1.now + c.first_end.result ≡ length c.loop-rest.rest.now = c.split_at.ensures.back_len in
    let fewer : length c.split_at.result.1.now < length c.loop-rest.rest.now = omega arith in
    fewer

pub invariant_of-push : goal.invariant_of-push
invariant_of-push c =
    first_is_value c.args.cells.now c.loop-rest.rest.now c.split_at.result.0.now c.split_at.result.1.now c.in_ok-from_slice.field-0 c.loop-rest.values c.loop-rest.values c.first_end.result
    c.split_at.ensures.front c.split_at.ensures.back c.in_ok-from_slice.ensures (not_empty c.loop-rest.rest.now c.is_empty.result c.is_empty.ensures c.loop-rest-test.true) c.first_end.ensures

pub returns : goal.returns
returns c = gathered_all c.args.cells.now c.loop-rest.rest.now c.loop-rest.values (empty c.loop-rest.rest.now c.is_empty.result c.is_empty.ensures c.loop-rest-test.false) c.loop-rest.invariant

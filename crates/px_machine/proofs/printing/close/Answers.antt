use Rattle.std.proofs.Common.{◌<◌, length}
use Rattle.std.proofs.lemmas.Result.{on_ok_weaker}
use Rattle.px_machine.proofs.PrintSteps.{closing_starts, closing_more, closing_goes_on, closing_ends, popped}
use Rattle.px_machine.proofs.printing.close.Goals as goal

pub loop-more-init : goal.loop-more-init
loop-more-init c = closing_starts c.args.text.now _

pub loop-more-preserved : goal.loop-more-preserved
loop-more-preserved c = closing_more _ _ c.loop-more.text c.loop-more.levels c.pop.new.self c.push-in-Some.new.self c.in-Some.more c.in-Some.ensures c.if-more-gt0.false c.in_ok-push-2.ensures.ok c.loop-more.invariant

pub loop-more-smaller : goal.loop-more-smaller
loop-more-smaller c = let fewer : length c.pop.new.self < length c.loop-more.levels = popped c.loop-more.levels c.pop.new.self c.in-Some.more c.in-Some.ensures in fewer

pub returns : goal.returns
returns c = closing_ends _ _ c.loop-more.text c.loop-more.levels c.pop.new.self c.in_default.ensures.0 c.in_default.ensures.1 c.loop-more.invariant

pub returns-then-more-gt0 : goal.returns-then-more-gt0
returns-then-more-gt0 c =
    on_ok_weaker c.extend_from_slice.result
    (closing_goes_on c.args.text.now _ c.loop-more.text c.loop-more.levels c.pop.new.self c.extend_from_slice.new.self c.push.new.self c.in-Some.more c.in-Some.ensures c.if-more-gt0.true c.in_ok-push.ensures.ok c.loop-more.invariant)
    c.extend_from_slice.ensures.ok

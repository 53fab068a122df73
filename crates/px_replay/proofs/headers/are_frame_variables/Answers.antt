use Rattle.std.proofs.Common.{◌≤◌, ◌<◌, arith}
use Rattle.px_replay.proofs.HeaderLemmas.{place_on, place_back}
use Rattle.px_replay.proofs.headers.are_frame_variables.Goals as goal

pub loop-variable-preserved : goal.loop-variable-preserved
loop-variable-preserved c =
    let low : c.loop-variable.least ≤ c.from-number.result = omega (arith, c.if-number-least.false) in
    let high : c.from-number.result < c.len-count.result = omega (arith, c.if-count-number.false) in
    record {
      on = λ are. place_on c.args.on.now c.loop-variable.variable-index c.from-number.result _ c.loop-variable.least c.len-count.result c.loop-variable-test.true c.from-number.ensures (c.loop-variable.invariant.on are);
      back = λ remain. c.loop-variable.invariant.back (place_back c.args.on.now c.loop-variable.variable-index c.from-number.result _ c.loop-variable.least c.len-count.result c.loop-variable-test.true c.from-number.ensures low high remain);
    }

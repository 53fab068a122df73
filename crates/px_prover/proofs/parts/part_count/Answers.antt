use Rattle.std.proofs.Common.{◌<◌, ◌^◌, length, arith}
use Rattle.px_prover.proofs.StandLemmas.{arms_fit}
use Rattle.px_prover.proofs.parts.part_count.Goals as goal

pub overflow_add-result : goal.overflow_add-result
overflow_add-result c =
    let few : length c.in-Match.arms < 2 ^ 32 = arms_fit c.args.t.now _ _ _ c.in-Match.arms c.in-Match.is c.requires.fits in
    omega (arith, few, c.len-in-Match.ensures)

use Rattle.std.proofs.Common.{◌≡◌, ◌<◌, false, length, arith, ◌∙◌}
use Rattle.std.proofs.lemmas.Bool.{iff_false}
use Rattle.std.proofs.lemmas.List.{set-get_or}
use Rattle.px_descent.specs.Around.{bound_of}
use Rattle.px_descent.specs.Kept.{stands_in}
use Rattle.px_descent.proofs.Clearing.{kept_more, cleared_more, cleared_all}
use Rattle.px_descent.proofs.kept.clear_at_call.Goals as goal
use Rattle.px_descent.proofs.kept.clear_at_call.Goals.{then-not-keeps, else-not-keeps}

pub loop-index-preserved : goal.loop-index-preserved
loop-index-preserved c P n =
    let args = stands_in P n c.args.args.now (bound_of c.args.around.now) in
    let within : c.loop-index.index < length c.loop-index.kept = omega arith in
    elim c.if-not-keeps.branch [
      | then-not-keeps w ↦
          rw w.kept-is (cleared_more c.args.first args c.loop-index.index c.args.kept.now c.loop-index.kept within (c.loop-index.invariant P n)
          (iff_false (c.keeps.ensures P n) w.if-not-keeps.true))
      | else-not-keeps w ↦
          rw (w.kept-is ∙ set-get_or c.loop-index.kept c.loop-index.index false)
          (kept_more c.args.first args c.loop-index.index c.args.kept.now c.loop-index.kept (c.loop-index.invariant P n)
          ((c.keeps.ensures P n).0 w.if-not-keeps.false))
    ]

pub returns : goal.returns
returns c P n =
    let args = stands_in P n c.args.args.now (bound_of c.args.around.now) in
    let all : c.loop-index.index ≡ length c.loop-index.kept = omega arith in
    let same : length c.loop-index.kept ≡ length c.args.kept.now = omega arith in
    cleared_all c.args.first args c.loop-index.index c.args.kept.now c.loop-index.kept all same (c.loop-index.invariant P n)

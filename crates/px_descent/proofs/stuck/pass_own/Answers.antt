use Rattle.std.proofs.Common.{◌<◌, ◌^◌, refl, arith}
use Rattle.std.proofs.lemmas.Bool.{iff_false}
use Rattle.px_descent.specs.Around.{bound_of}
use Rattle.px_descent.specs.Kept.{stands_in}
use Rattle.px_descent.proofs.Passing.{one_stuck}
use Rattle.px_descent.proofs.stuck.pass_own.Goals as goal

pub returns-then-not-lowers_kept : goal.returns-then-not-lowers_kept
returns-then-not-lowers_kept c =
    let s = c.args.search.now in
    let bound = bound_of c.args.around.now in
    let fits : c.args.before < 2 ^ 32 = omega arith in
    rw (c.in-Some.ensures.is s.program.now bound)
    (one_stuck s (stands_in s.program.now s.def c.in-Some.args.now bound) c.args.before (record { def = s.def; call = c.args.before }) fits
    (iff_false c.lowers_kept.ensures c.if-not-lowers_kept.true) refl refl)

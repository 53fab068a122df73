use Rattle.px_descent.specs.Around.{bound_of}
use Rattle.px_descent.proofs.kept.clear_own.Goals as goal

pub returns-in-Some : goal.returns-in-Some
returns-in-Some c =
    let P = c.args.positions.now.program.now in
    let bound = bound_of c.args.around.now in
    rw (c.in-Some.ensures.is P bound) (c.clear_at_call.ensures P c.args.positions.now.def)

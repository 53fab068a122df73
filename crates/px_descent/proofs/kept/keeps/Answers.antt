use Rattle.px_descent.proofs.Standings.{keeps_at}
use Rattle.px_descent.specs.Around.{standing_of, bound_of}
use Rattle.px_descent.proofs.kept.keeps.Goals as goal

pub returns : goal.returns
returns c P n =
    keeps_at P n c.args.args.now (bound_of c.args.around.now) c.args.position c.in-Some.arg.now c.is_within.result (standing_of c.standing.result)
    (c.in-Some.ensures) (c.standing.ensures P n) c.is_within.ensures

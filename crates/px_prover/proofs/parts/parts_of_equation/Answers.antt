use Rattle.px_prover.proofs.Gathering.{two_sides}
use Rattle.px_prover.proofs.parts.parts_of_equation.Goals as goal

pub returns : goal.returns
returns c = two_sides c.args.equation.now c.in_ok-parts.parts c.in_ok-more.more c.append.new.self c.in_ok-parts.ensures c.in_ok-more.ensures c.in_ok-append.ensures

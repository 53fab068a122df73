use Rattle.px_prover.specs.Settling.{facts_used}
use Rattle.px_prover.proofs.Gathering.{both_sides}
use Rattle.px_prover.proofs.parts.parts_of_branch.Goals as goal

pub returns : goal.returns
returns c = both_sides c.args.alternatives.now (facts_used c.args.used.now c.args.facts.now) c.in_ok-parts.parts c.in_ok-more.more c.append.new.self c.in_ok-parts.ensures c.in_ok-more.ensures c.in_ok-append.ensures

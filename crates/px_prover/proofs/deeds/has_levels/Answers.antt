use Rattle.px_prover.proofs.Counting.{takes_levels, leads_levels}
use Rattle.px_prover.proofs.deeds.has_levels.Goals as goal

pub returns-in-Takes : goal.returns-in-Takes
returns-in-Takes c = takes_levels c.args.levels c.depth.result c.in-Takes.kind c.in-Takes.term c.args.first.now c.in-Takes.is c.depth.ensures c.requires

pub returns-in-Leads : goal.returns-in-Leads
returns-in-Leads c = leads_levels c.args.levels c.depth-in-Leads.result c.in-Leads.body c.args.first.now c.in-Leads.is c.depth-in-Leads.ensures c.requires

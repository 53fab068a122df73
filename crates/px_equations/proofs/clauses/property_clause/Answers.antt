use Rattle.px_equations.proofs.Listing.{only_property}
use Rattle.px_equations.proofs.clauses.property_clause.Goals as goal

pub returns-in-Ok : goal.returns-in-Ok
returns-in-Ok c = only_property c.args.program.now c.args.number c.args.prop c.in-Ok.clause c.in-Ok.ensures.ok c.in-Ok.ensures.only

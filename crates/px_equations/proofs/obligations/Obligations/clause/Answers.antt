use Rattle.std.proofs.Common.{sym}
use Rattle.px_equations.proofs.Listing.{clause_only}
use Rattle.px_equations.proofs.obligations.Obligations.clause.Goals as goal

pub returns-clause-only : goal.returns-clause-only
returns-clause-only c = clause_only c.args.self.now c.self.inside.checked.now c.self.inside.clauses c.as_slice.result.now c.self.inside.index c.args.number c.at.result
    c.self.invariant (sym c.self.view_is) c.as_slice.ensures c.at.ensures

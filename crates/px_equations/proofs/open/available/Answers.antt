use Rattle.std.proofs.Common.{subst}
use Rattle.px_terms.specs.declared.clause.Clause.{Clause}
use Rattle.px_terms.specs.Noting.{IsOpen}
use Rattle.px_equations.proofs.Opening.{tells_open}
use Rattle.px_equations.proofs.open.available.Goals as goal

pub returns-clause-open : goal.returns-clause-open
returns-clause-open c =
    tells_open c.args.all.now c.args.number c.in-Some.own.now c.args.reference.now c.in-Some.ensures.only c.open_in.result c.open_in.ensures.open

pub returns-clause-only : goal.returns-clause-only
returns-clause-only c = λ own clause obligation is.
    c.open_in.ensures.only clause
    (subst (λ (other : Clause). IsOpen c.args.all.now c.args.number other c.args.reference.now clause) (c.in-Some.ensures.only own obligation) is)

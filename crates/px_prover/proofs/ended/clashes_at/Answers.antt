use Rattle.px_terms.specs.declared.clause.Equation.{Equation}
use Rattle.px_terms.specs.Rows.{HeadsClash}
use Rattle.px_prover.proofs.NoneSoFar.{told_of}
use Rattle.px_prover.proofs.ended.clashes_at.Goals as goal

pub returns-in-Ok : goal.returns-in-Ok
returns-in-Ok c = told_of (λ (e : Equation). HeadsClash e.left e.right) c.args.sequent.now.facts c.args.number c.in-Ok.clash c.in-Ok.ensures

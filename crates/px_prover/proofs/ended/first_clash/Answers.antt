use Rattle.std.proofs.Common.{◌≤◌, List, length, subst}
use Rattle.px_terms.specs.declared.clause.Equation.{Equation}
use Rattle.px_terms.specs.Rows.{HeadsClash}
use Rattle.px_prover.proofs.NoneSoFar.{none_start, none_skip, none_end, not_both}
use Rattle.px_prover.proofs.ended.first_clash.Goals as goal

pub loop-number-init : goal.loop-number-init
loop-number-init c = none_start (λ (e : Equation). HeadsClash e.left e.right) c.args.sequent.now.facts

pub loop-number-preserved : goal.loop-number-preserved
loop-number-preserved c = none_skip (λ (e : Equation). HeadsClash e.left e.right) c.args.sequent.now.facts c.loop-number.number c.loop-number.invariant (λ e stands clash. not_both c.if-clashes_at.false (c.clashes_at.ensures.1 (e, stands, clash)))

pub returns : goal.returns
returns c = none_end (λ (e : Equation). HeadsClash e.left e.right) c.args.sequent.now.facts c.loop-number.number c.loop-number.invariant (subst (λ (es : List Equation). length es ≤ c.loop-number.number) c.as_slice-number-end.ensures c.loop-number-test.false)

pub returns-then-clashes_at : goal.returns-then-clashes_at
returns-then-clashes_at c = c.clashes_at.ensures.0 c.if-clashes_at.true

use Rattle.std.proofs.Common.{◌≡◌}
use Rattle.px_terms.specs.declared.clause.Equation.{Equation}
use Rattle.px_prover.proofs.NoneSoFar.{none_start, none_next, none_end, read_at, not_both}
use Rattle.px_prover.proofs.ended.first_equal.Goals as goal

pub loop-number-init : goal.loop-number-init
loop-number-init c = none_start (λ (e : Equation). e.left ≡ e.right) c.args.equations.now

pub loop-number-preserved : goal.loop-number-preserved
loop-number-preserved c = none_next (λ (e : Equation). e.left ≡ e.right) c.args.equations.now c.loop-number.number c.index-equations-number.result c.loop-number.invariant c.loop-number-test.true c.index-equations-number.is (λ same. not_both c.if-same_term.false (c.same_term.ensures.1 same))

pub returns-then-same_term : goal.returns-then-same_term
returns-then-same_term c = (c.index-equations-number.result, read_at c.args.equations.now c.loop-number.number c.index-equations-number.result c.loop-number-test.true c.index-equations-number.is, c.same_term.ensures.0 c.if-same_term.true)

pub returns : goal.returns
returns c = none_end (λ (e : Equation). e.left ≡ e.right) c.args.equations.now c.loop-number.number c.loop-number.invariant c.loop-number-test.false

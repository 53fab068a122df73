use Rattle.std.proofs.Common.{◌≡◌}
use Rattle.px_terms.specs.declared.term.Term.{Term}
use Rattle.px_prover.proofs.NoneSoFar.{none_start, none_next, not_both}
use Rattle.px_prover.proofs.Gathering.{among_yes, among_none}
use Rattle.px_prover.proofs.parts.is_among.Goals as goal

pub loop-other-init : goal.loop-other-init
loop-other-init c = none_start (λ (u : Term). u ≡ c.args.t.now) c.args.terms.now

pub loop-other-preserved : goal.loop-other-preserved
loop-other-preserved c = none_next (λ (u : Term). u ≡ c.args.t.now) c.args.terms.now c.loop-other.other-index c.other-item.result c.loop-other.invariant c.loop-other-test.true c.other-item.is (λ same. not_both c.if-same_term.false (c.same_term.ensures.1 same))

pub returns-then-same_term : goal.returns-then-same_term
returns-then-same_term c = among_yes c.args.terms.now c.loop-other.other-index c.other-item.result c.args.t.now c.loop-other-test.true c.other-item.is (c.same_term.ensures.0 c.if-same_term.true)

pub returns : goal.returns
returns c = among_none c.args.terms.now c.loop-other.other-index c.args.t.now c.loop-other.invariant c.loop-other-test.false

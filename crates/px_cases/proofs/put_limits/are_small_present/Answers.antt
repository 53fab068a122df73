use Rattle.std.proofs.Common.{refl}
use Rattle.px_terms.specs.declared.sequent.Present.{Present}
use Rattle.px_terms.specs.Terms.{term_put}
use Rattle.px_terms.specs.Sequents.{IsSmall}
use Rattle.px_cases.proofs.Lists.{all_one_more, all_whole, one_fails}
use Rattle.px_cases.proofs.put_limits.are_small_present.Goals as goal

pub returns-then-not-is_small : goal.returns-then-not-is_small
returns-then-not-is_small c = one_fails (λ (p : Present). IsSmall (term_put c.args.put.now.variable c.args.put.now.by.now p.term)) c.args.entries.now c.loop-present.present-index c.present-item.result c.is_small.result c.loop-present-test.true c.present-item.is c.is_small.ensures c.if-not-is_small.true

pub loop-present-preserved : goal.loop-present-preserved
loop-present-preserved c = all_one_more (λ (p : Present). IsSmall (term_put c.args.put.now.variable c.args.put.now.by.now p.term)) c.args.entries.now c.loop-present.present-index c.present-item.result c.loop-present-test.true c.present-item.is c.loop-present.invariant (c.is_small.ensures.0 c.if-not-is_small.false)

pub returns : goal.returns
returns c = (λ _. all_whole (λ (p : Present). IsSmall (term_put c.args.put.now.variable c.args.put.now.by.now p.term)) c.args.entries.now c.loop-present.present-index c.loop-present-test.false c.loop-present.invariant, λ _. refl)

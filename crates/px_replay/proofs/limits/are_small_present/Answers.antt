use Rattle.std.proofs.Common.{refl}
use Rattle.px_terms.specs.declared.sequent.Present.{Present}
use Rattle.px_terms.specs.Sequents.{IsSmall}
use Rattle.px_replay.proofs.Lists.{all_one_more, all_whole}
use Rattle.px_replay.proofs.limits.are_small_present.Goals as goal

pub loop-present-preserved : goal.loop-present-preserved
loop-present-preserved c = all_one_more (λ (p : Present). IsSmall p.term) c.args.entries.now c.loop-present.present-index c.present-item.result c.loop-present-test.true c.present-item.is c.loop-present.invariant (c.is_small.ensures.0 c.if-not-is_small.false)

pub returns : goal.returns
returns c = (λ _. all_whole (λ (p : Present). IsSmall p.term) c.args.entries.now c.loop-present.present-index c.loop-present-test.false c.loop-present.invariant, λ _. refl)

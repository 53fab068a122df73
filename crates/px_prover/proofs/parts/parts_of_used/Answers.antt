use Rattle.px_prover.proofs.NoneSoFar.{not_both}
use Rattle.px_prover.proofs.Gathering.{used_start, used_next, used_passes, used_end}
use Rattle.px_prover.proofs.parts.parts_of_used.Goals as goal

pub loop-number-init : goal.loop-number-init
loop-number-init c = used_start c.args.used.now c.new-parts.result c.new-parts.ensures

pub loop-number-preserved : goal.loop-number-preserved
loop-number-preserved c = used_next c.args.used.now c.args.facts.now c.loop-number.number c.index-facts-number.result c.loop-number.parts c.in_ok-more.more c.append.new.self c.loop-number-test.true c.index-facts-number.is
    (c.is_marked.ensures.0 c.if-not-is_marked.false) c.loop-number.invariant c.in_ok-more.ensures c.in_ok-append.ensures

pub loop-number-preserved-then-not-is_marked : goal.loop-number-preserved-then-not-is_marked
loop-number-preserved-then-not-is_marked c = used_passes c.args.used.now c.args.facts.now c.loop-number.number c.loop-number.parts (λ at. not_both c.if-not-is_marked.true (c.is_marked.ensures.1 at)) c.loop-number.invariant

pub returns : goal.returns
returns c = used_end c.args.used.now c.args.facts.now c.loop-number.number c.loop-number.parts c.loop-number-test.false c.loop-number.invariant

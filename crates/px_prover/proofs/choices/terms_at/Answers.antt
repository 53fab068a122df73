use Rattle.px_prover.proofs.Gathering.{chosen_next}
use Rattle.px_prover.proofs.choices.terms_at.Goals as goal

pub loop-number-preserved : goal.loop-number-preserved
loop-number-preserved c = chosen_next c.args.candidates.now c.args.numbers.now c.loop-number.number-index c.loop-number.terms c.push.new.self c.index-candidates-number.result c.in_ok-copy.field-0 c.requires.within c.loop-number-test.true
    c.index-candidates-number.is c.in_ok-copy.ensures c.in_ok-push.ensures.ok c.loop-number.invariant

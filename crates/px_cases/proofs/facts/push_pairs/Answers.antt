use Rattle.px_cases.proofs.FactLemmas.{pairs_end}
use Rattle.px_cases.proofs.facts.push_pairs.Goals as goal

pub returns : goal.returns
returns c = pairs_end c.args.fields.now c.args.parts.now c.loop-place.place c.loop-place.facts _ (rw c.min-count.ensures at c.loop-place-test.false) c.loop-place.invariant

use Rattle.std.proofs.Common.{refl}
use Rattle.px_terms.specs.Guards.{PutsPart}
use Rattle.px_induct.proofs.Entries.{all_one_more, all_whole}
use Rattle.px_induct.proofs.guard.all_put_parts.Goals as goal

pub loop-entry-preserved : goal.loop-entry-preserved
loop-entry-preserved c = all_one_more (PutsPart c.args.terms.now) c.args.entries.now c.loop-entry.entry-index c.entry-item.result c.loop-entry-test.true c.entry-item.is c.loop-entry.invariant (c.puts_part.ensures.0 c.if-not-puts_part.false)

pub returns : goal.returns
returns c = (λ _. all_whole (PutsPart c.args.terms.now) c.args.entries.now c.loop-entry.entry-index c.loop-entry-test.false c.loop-entry.invariant, λ _. refl)

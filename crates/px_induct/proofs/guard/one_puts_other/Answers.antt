use Rattle.std.proofs.Common.{refl}
use Rattle.px_terms.specs.Guards.{PutsOther}
use Rattle.px_induct.proofs.Entries.{found_item, none_next, none_whole, nothing_found, both_false}
use Rattle.px_induct.proofs.guard.one_puts_other.Goals as goal

pub returns-then-puts_other : goal.returns-then-puts_other
returns-then-puts_other c = (λ _. (c.loop-entry.entry-index, c.entry-item.result, found_item c.args.entries.now c.loop-entry.entry-index c.entry-item.result c.loop-entry-test.true c.entry-item.is, c.puts_other.ensures.0 c.if-puts_other.true), λ _. refl)

pub loop-entry-preserved : goal.loop-entry-preserved
loop-entry-preserved c = none_next (PutsOther c.args.terms.now) c.args.entries.now c.loop-entry.entry-index c.entry-item.result c.loop-entry-test.true c.entry-item.is c.loop-entry.invariant (λ puts. both_false _ c.if-puts_other.false (c.puts_other.ensures.1 puts))

pub returns : goal.returns
returns c = nothing_found (PutsOther c.args.terms.now) c.args.entries.now (none_whole (PutsOther c.args.terms.now) c.args.entries.now c.loop-entry.entry-index c.loop-entry-test.false c.loop-entry.invariant)

use Rattle.std.proofs.Common.{◌≡◌, refl}
use Rattle.px_terms.specs.declared.sequent.Present.{Present}
use Rattle.px_induct.proofs.Entries.{found_item, none_next, none_whole}
use Rattle.px_induct.proofs.frames.present.Goals as goal

pub returns-then-entry-variable : goal.returns-then-entry-variable
returns-then-entry-variable c = (c.loop-entry.entry-index, c.entry-item.result, found_item c.args.frame.now.entries c.loop-entry.entry-index c.entry-item.result (rw c.as_slice-entry-items.ensures at c.loop-entry-test.true) (rw c.as_slice-entry-items.ensures at c.entry-item.is), c.if-entry-variable.true, refl)

pub loop-entry-preserved : goal.loop-entry-preserved
loop-entry-preserved c = none_next (λ (p : Present). p.variable ≡ c.args.variable) c.args.frame.now.entries c.loop-entry.entry-index c.entry-item.result (rw c.as_slice-entry-items.ensures at c.loop-entry-test.true) (rw c.as_slice-entry-items.ensures at c.entry-item.is) c.loop-entry.invariant c.if-entry-variable.false

pub returns : goal.returns
returns c = none_whole (λ (p : Present). p.variable ≡ c.args.variable) c.args.frame.now.entries c.loop-entry.entry-index (rw c.as_slice-entry-items.ensures at c.loop-entry-test.false) c.loop-entry.invariant

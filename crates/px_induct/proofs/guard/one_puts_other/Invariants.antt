use Rattle.std.proofs.Common.{◌≡◌, ℕ, take, slice_get, Some}
use Rattle.px_terms.specs.declared.sequent.Present.{Present}
use Rattle.px_terms.specs.Guards.{PutsOther}
use Rattle.px_induct.proofs.guard.one_puts_other.Given as goal

abbrev pub invariant-loop-entry : goal.invariant-loop-entry
invariant-loop-entry l = (i : ℕ) (p : Present) → slice_get (take l.entry-index l.entries) i ≡ Some p → ¬ PutsOther l.terms p

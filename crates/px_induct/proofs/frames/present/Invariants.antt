use Rattle.std.proofs.Common.{◌≡◌, ℕ, take, slice_get, Some}
use Rattle.px_terms.specs.declared.sequent.Present.{Present}
use Rattle.px_induct.proofs.frames.present.Given as goal

abbrev pub invariant-loop-entry : goal.invariant-loop-entry
invariant-loop-entry l = (i : ℕ) (p : Present) → slice_get (take l.entry-index l.frame.entries) i ≡ Some p → ¬ (p.variable ≡ l.variable)

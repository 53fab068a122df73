use Rattle.std.proofs.Common.{◌≡◌, take}
use Rattle.px_terms.proofs.copying.+copy.Given as goal

abbrev pub invariant-copy_terms-loop-t : goal.invariant-copy_terms-loop-t
invariant-copy_terms-loop-t l = l.copies ≡ take l.t-index l.terms

use Rattle.std.proofs.Common.{◌≡◌, take}
use Rattle.px_terms.proofs.sameness.+same_term.Given as goal

abbrev pub invariant-same_terms-loop-i : goal.invariant-same_terms-loop-i
invariant-same_terms-loop-i l = take l.i l.a ≡ take l.i l.b

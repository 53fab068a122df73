use Rattle.std.proofs.Common.{◌≡◌, ◌++◌, take}
use Rattle.px_rewrite.proofs.replacing.push_copies.Given as goal

abbrev pub invariant-loop-t : goal.invariant-loop-t
invariant-loop-t l = l.copies ≡ l.initial.copies ++ take l.t-index l.terms

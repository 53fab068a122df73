use Rattle.std.proofs.Common.{◌≡◌, take}
use Rattle.px_terms.proofs.copying.copy_funs.Given as goal

abbrev pub invariant-loop-fun : goal.invariant-loop-fun
invariant-loop-fun l = l.copies ≡ take l.fun-index l.funs

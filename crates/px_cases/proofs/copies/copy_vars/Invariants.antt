use Rattle.std.proofs.Common.{◌≡◌, take}
use Rattle.px_cases.proofs.copies.copy_vars.Given as goal

abbrev pub invariant-loop-var : goal.invariant-loop-var
invariant-loop-var l = l.copied ≡ take l.var-index l.vars

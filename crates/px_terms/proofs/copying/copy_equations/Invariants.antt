use Rattle.std.proofs.Common.{◌≡◌, take}
use Rattle.px_terms.proofs.copying.copy_equations.Given as goal

abbrev pub invariant-loop-equation : goal.invariant-loop-equation
invariant-loop-equation l = l.copies ≡ take l.equation-index l.equations

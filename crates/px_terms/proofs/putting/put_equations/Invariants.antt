use Rattle.std.proofs.Common.{◌≡◌, take}
use Rattle.px_terms.specs.TreeEdits.{equations_put}
use Rattle.px_terms.proofs.putting.put_equations.Given as goal

abbrev pub invariant-loop-equation : goal.invariant-loop-equation
invariant-loop-equation l = l.done ≡ equations_put l.variable l.by (take l.equation-index l.equations)

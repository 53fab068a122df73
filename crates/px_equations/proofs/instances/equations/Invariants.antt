use Rattle.std.proofs.Common.{◌≡◌, take}
use Rattle.px_terms.specs.Noting.{equations_instance}
use Rattle.px_equations.proofs.instances.equations.Given as goal

abbrev pub invariant-loop-equation : goal.invariant-loop-equation
invariant-loop-equation l = l.made ≡ equations_instance l.sigma (take l.equation-index l.of)

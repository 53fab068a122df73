use Rattle.std.proofs.Common.{◌↔◌, Contains, take}
use Rattle.px_terms.specs.declared.term.Term.{Term}
use Rattle.px_prover.specs.Uses.{StandsThere, sides_of}
use Rattle.px_prover.proofs.parts.parts_of_sides.Given as goal

abbrev pub invariant-loop-equation : goal.invariant-loop-equation
invariant-loop-equation l = (u : Term) → Contains l.parts u ↔ StandsThere (sides_of (take l.equation-index l.equations)) u

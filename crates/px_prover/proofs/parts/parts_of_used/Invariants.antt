use Rattle.std.proofs.Common.{◌↔◌, Contains, take}
use Rattle.px_terms.specs.declared.term.Term.{Term}
use Rattle.px_prover.specs.Settling.{facts_used}
use Rattle.px_prover.specs.Uses.{StandsThere, sides_of}
use Rattle.px_prover.proofs.parts.parts_of_used.Given as goal

abbrev pub invariant-loop-number : goal.invariant-loop-number
invariant-loop-number l = (u : Term) → Contains l.parts u ↔ StandsThere (sides_of (facts_used l.used (take l.number l.facts))) u

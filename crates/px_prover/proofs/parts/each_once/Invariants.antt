use Rattle.std.proofs.Common.{◌↔◌, Contains, take}
use Rattle.px_terms.specs.declared.term.Term.{Term}
use Rattle.px_prover.proofs.parts.each_once.Given as goal

abbrev pub invariant-loop-t : goal.invariant-loop-t
invariant-loop-t l = (u : Term) → Contains l.kept u ↔ Contains (take l.t-index l.terms) u

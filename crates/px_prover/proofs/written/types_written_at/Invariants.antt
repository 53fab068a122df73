use Rattle.std.proofs.Common.{◌≡◌, ◌++◌, [], take, flat_map}
use Rattle.px_terms.specs.declared.term.Term.{Term, out-Term}
use Rattle.px_prover.specs.Uses.{types_written}
use Rattle.px_prover.proofs.written.types_written_at.Given as goal

abbrev pub invariant-loop-t : goal.invariant-loop-t
invariant-loop-t l = l.types ≡ [] ++ flat_map (λ (t : Term). types_written (out-Term t)) (take l.t-index l.terms)

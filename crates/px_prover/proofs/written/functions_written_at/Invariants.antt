use Rattle.std.proofs.Common.{◌≡◌, ◌++◌, [], take, flat_map}
use Rattle.px_terms.specs.declared.term.Term.{Term, out-Term}
use Rattle.px_prover.specs.Uses.{functions_written}
use Rattle.px_prover.proofs.written.functions_written_at.Given as goal

abbrev pub invariant-loop-t : goal.invariant-loop-t
invariant-loop-t l = l.funs ≡ [] ++ flat_map (λ (t : Term). functions_written (out-Term t)) (take l.t-index l.terms)

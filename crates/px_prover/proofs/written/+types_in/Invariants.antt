use Rattle.px_terms.specs.Types.{ty_size}
use Rattle.px_prover.proofs.TypeLemmas.{AreParts}
use Rattle.px_prover.proofs.written.+types_in.Given as goal

abbrev pub decreases-types_in : goal.decreases-types_in
decreases-types_in l = ty_size l.ty.now

abbrev pub invariant-loop-number : goal.invariant-loop-number
invariant-loop-number l = AreParts l.ty l.number l.types

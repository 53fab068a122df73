use Rattle.std.proofs.Common.{◌≡◌, take, map}
use Rattle.px_terms.specs.Terms.{term_instance}
use Rattle.px_terms.proofs.instances.+instance.Given as goal

abbrev pub invariant-instance_of_terms-loop-t : goal.invariant-instance_of_terms-loop-t
invariant-instance_of_terms-loop-t l = l.done ≡ map (term_instance l.sigma) (take l.t-index l.terms)

use Rattle.std.proofs.Common.{◌≡◌, take, min, ◌-◌, ◌^◌, map}
use Rattle.px_terms.specs.Terms.{terms_size, term_instance}
use Rattle.px_terms.proofs.instance_sizes.+size_of_instance.Given as goal

abbrev pub invariant-size_of_terms_instance-loop-t : goal.invariant-size_of_terms_instance-loop-t
invariant-size_of_terms_instance-loop-t l = l.total ≡ min (terms_size (map (term_instance l.sigma) (take l.t-index l.terms))) (2 ^ 64 - 1)

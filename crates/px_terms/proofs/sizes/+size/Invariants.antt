use Rattle.std.proofs.Common.{◌≡◌, take, min, ◌-◌, ◌^◌}
use Rattle.px_terms.specs.Terms.{terms_size}
use Rattle.px_terms.proofs.sizes.+size.Given as goal

abbrev pub invariant-size_of_terms-loop-t : goal.invariant-size_of_terms-loop-t
invariant-size_of_terms-loop-t l = l.total ≡ min (terms_size (take l.t-index l.terms)) (2 ^ 64 - 1)

use Rattle.std.proofs.Common.{◌≡◌, take, min, ◌-◌, ◌^◌, map}
use Rattle.px_terms.specs.Terms.{terms_size, term_put}
use Rattle.px_cases.proofs.put_sizes.+size_of_put.Given as goal

abbrev pub invariant-size_of_puts-loop-t : goal.invariant-size_of_puts-loop-t
invariant-size_of_puts-loop-t l = l.total ≡ min (terms_size (map (term_put l.variable l.by) (take l.t-index l.terms))) (2 ^ 64 - 1)

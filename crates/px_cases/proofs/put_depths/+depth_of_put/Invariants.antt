use Rattle.std.proofs.Common.{◌≡◌, take, min, ◌-◌, ◌^◌, map}
use Rattle.px_terms.specs.Terms.{terms_depth, term_put}
use Rattle.px_cases.proofs.put_depths.+depth_of_put.Given as goal

abbrev pub invariant-depth_of_puts-loop-t : goal.invariant-depth_of_puts-loop-t
invariant-depth_of_puts-loop-t l = l.deepest ≡ min (terms_depth (map (term_put l.variable l.by) (take l.t-index l.terms))) (2 ^ 32 - 1)

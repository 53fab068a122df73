use Rattle.std.proofs.Common.{◌≡◌, take, min, ◌-◌, ◌^◌}
use Rattle.px_terms.specs.Terms.{terms_depth}
use Rattle.px_terms.proofs.depths.+depth.Given as goal

abbrev pub invariant-depth_of_terms-loop-t : goal.invariant-depth_of_terms-loop-t
invariant-depth_of_terms-loop-t l = l.deepest ≡ min (terms_depth (take l.t-index l.terms)) (2 ^ 32 - 1)

use Rattle.std.proofs.Common.{◌≡◌, take, map}
use Rattle.px_terms.specs.Terms.{term_put}
use Rattle.px_terms.proofs.putting.+put.Given as goal

abbrev pub invariant-put_terms-loop-t : goal.invariant-put_terms-loop-t
invariant-put_terms-loop-t l = l.done ≡ map (term_put l.variable l.by) (take l.t-index l.terms)

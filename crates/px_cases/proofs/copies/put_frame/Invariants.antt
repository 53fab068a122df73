use Rattle.std.proofs.Common.{◌≡◌, take, map}
use Rattle.px_terms.specs.declared.sequent.Present.{Present}
use Rattle.px_terms.specs.Terms.{term_put}
use Rattle.px_cases.proofs.copies.put_frame.Given as goal

abbrev pub invariant-loop-present : goal.invariant-loop-present
invariant-loop-present l = l.entries ≡ map (λ (p : Present). record { variable = p.variable; term = term_put l.variable l.by p.term }) (take l.present-index l.frame.entries)

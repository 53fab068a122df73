use Rattle.std.proofs.Common.{◌≡◌, take, map}
use Rattle.px_terms.specs.declared.sequent.Present.{Present}
use Rattle.px_terms.specs.Terms.{term_put}
use Rattle.px_induct.proofs.frames.put_entries.Given as goal

abbrev pub invariant-loop-entry : goal.invariant-loop-entry
invariant-loop-entry l = l.done ≡ map (λ (p : Present). record { variable = p.variable; term = term_put l.variable l.by p.term }) (take l.entry-index l.entries)

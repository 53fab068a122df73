use Rattle.std.proofs.Common.{◌≡◌, ℕ, take, map}
use Rattle.px_terms.specs.declared.term.Term.TheVariants as term
use Rattle.px_induct.proofs.frames.new_frame.Given as goal

abbrev pub invariant-loop-variable : goal.invariant-loop-variable
invariant-loop-variable l = l.entries ≡ map (λ (v : ℕ). record { variable = v; term = term.Free v }) (take l.variable-index l.variables)

use Rattle.std.proofs.Common.{◌≡◌, take, map, true}
use Rattle.px_terms.specs.declared.clause.Equation.{Equation}
use Rattle.px_prover.proofs.frames.all_used.Given as goal

abbrev pub invariant-loop-fact : goal.invariant-loop-fact
invariant-loop-fact l = l.used ≡ map (λ (e : Equation). true) (take l._fact-index l.facts)

use Rattle.std.proofs.Common.{◌≡◌, ◌++◌, ◌∷◌, [], map, take, All}
use Rattle.px_terms.specs.declared.clause.Equation.{Equation}
use Rattle.px_terms.specs.Noting.{equations_instance}
use Rattle.px_terms.specs.Sequents.{IsWithinLimits}
use Rattle.px_terms.specs.Rows.{with_facts}
use Rattle.px_replay.proofs.instances.push_assumed.Given as goal

abbrev pub invariant-loop-alternative : goal.invariant-loop-alternative
invariant-loop-alternative l = record {
  made : l.children ≡ l.fn.children ++ map (λ (e : Equation). with_facts l.top.sequent (e ∷ [])) (equations_instance l.sigma (take l.alternative-index l.alternatives));
  small : All IsWithinLimits l.fn.children → All IsWithinLimits l.children;
}

use Rattle.std.proofs.Common.{◌≡◌, List, drop}
use Rattle.px_types.specs.Envs.{env_of, tys_of}
use Rattle.px_types.specs.Outcomes.{each_two}
use Rattle.px_types.specs.Outcome.{variable_met}
use Rattle.px_types.proofs.Loops.{after}
use Rattle.px_types.proofs.arms.variables_met.Given as goal

abbrev pub invariant-loop-number : goal.invariant-loop-number
invariant-loop-number l =
    (seen : List (Unit {0})) × (after seen (each_two (variable_met (env_of l.env)) (drop l.number l.vars) (drop l.number (tys_of l.fields))) ≡ each_two
    (variable_met (env_of l.env)) l.vars (tys_of l.fields))

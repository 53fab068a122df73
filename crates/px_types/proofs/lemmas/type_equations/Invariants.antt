use Rattle.std.proofs.Common.{◌≡◌, drop}
use Rattle.px_types.specs.Envs.{env_of}
use Rattle.px_types.specs.NextOutcome.{equation_found}
use Rattle.px_types.specs.Outcomes.{each}
use Rattle.px_types.proofs.Loops.{after}
use Rattle.px_types.proofs.lemmas.type_equations.Given as goal

abbrev pub invariant-loop-raw : goal.invariant-loop-raw
invariant-loop-raw l = after l.equations (each (equation_found (env_of l.env)) (drop l.raw-index l.raws)) ≡ each (equation_found (env_of l.env)) l.raws

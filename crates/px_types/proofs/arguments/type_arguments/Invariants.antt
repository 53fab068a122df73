use Rattle.std.proofs.Common.{◌≡◌, drop, map}
use Rattle.px_terms.specs.Types.{fn_type_instance}
use Rattle.px_types.specs.Envs.{env_of}
use Rattle.px_types.specs.Outcomes.{each_two}
use Rattle.px_types.specs.Outcome.{argument_found}
use Rattle.px_types.proofs.Loops.{after}
use Rattle.px_types.proofs.arguments.type_arguments.Given as goal

abbrev pub invariant-loop-number : goal.invariant-loop-number
invariant-loop-number l =
    after l.funs (each_two (argument_found (env_of l.env)) (drop l.number l.raws) (drop l.number (map (fn_type_instance l.types) l.takes))) ≡ each_two
    (argument_found (env_of l.env)) l.raws (map (fn_type_instance l.types) l.takes)

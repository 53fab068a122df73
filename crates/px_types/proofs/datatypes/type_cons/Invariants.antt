use Rattle.std.proofs.Common.{◌≡◌, drop}
use Rattle.px_types.specs.NextOutcome.{constructor_found}
use Rattle.px_types.specs.Outcomes.{each}
use Rattle.px_types.proofs.Loops.{after}
use Rattle.px_types.proofs.datatypes.type_cons.Given as goal

abbrev pub invariant-loop-con : goal.invariant-loop-con
invariant-loop-con l =
    after l.cons (each (constructor_found l.program l.raw.tparams) (drop l.con-index l.raw.cons)) ≡ each (constructor_found l.program l.raw.tparams) l.raw.cons

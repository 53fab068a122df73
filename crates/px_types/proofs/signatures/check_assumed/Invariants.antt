use Rattle.std.proofs.Common.{◌≡◌, drop}
use Rattle.px_types.specs.NextOutcome.{assumed_found}
use Rattle.px_types.proofs.signatures.check_assumed.Given as goal

abbrev pub invariant-loop-raw : goal.invariant-loop-raw
invariant-loop-raw l =
    (assumed_found l.program l.funs l.raw-index (drop l.raw-index l.raws) ≡ assumed_found l.program l.funs 0 l.raws) × (l.rest ≡ drop l.raw-index l.funs)

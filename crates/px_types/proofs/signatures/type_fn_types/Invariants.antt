use Rattle.std.proofs.Common.{◌≡◌, drop}
use Rattle.px_types.specs.NextOutcome.{fn_types_found}
use Rattle.px_types.proofs.Loops.{after}
use Rattle.px_types.proofs.signatures.type_fn_types.Given as goal

abbrev pub invariant-loop-raw : goal.invariant-loop-raw
invariant-loop-raw l = after l.funs (fn_types_found l.program l.tparams (drop l.raw-index l.raws)) ≡ fn_types_found l.program l.tparams l.raws

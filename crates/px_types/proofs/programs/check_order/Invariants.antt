use Rattle.std.proofs.Common.{◌≡◌, drop}
use Rattle.px_types.specs.Declarations.{start}
use Rattle.px_types.specs.NextOutcome.{next_found}
use Rattle.px_types.specs.Outcomes.{along}
use Rattle.px_types.proofs.CountSteps.{HasRoom}
use Rattle.px_types.proofs.programs.check_order.Given as goal

abbrev pub invariant-loop-number : goal.invariant-loop-number
invariant-loop-number l =
    HasRoom l.raw l.checking (drop l.number l.raw.order) × (along (next_found l.raw) l.checking (drop l.number l.raw.order) ≡ along (next_found l.raw) start
    l.raw.order)

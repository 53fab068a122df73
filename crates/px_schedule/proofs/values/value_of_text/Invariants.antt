use Rattle.std.proofs.Common.{length}
use Rattle.px_schedule.specs.Runs.{left}
use Rattle.px_schedule.proofs.WholeTexts.{IsUnderWay}
use Rattle.px_schedule.proofs.values.value_of_text.Given as goal

abbrev pub invariant-wanted : goal.invariant-wanted
invariant-wanted l = IsUnderWay l.fn.program l.fn.ty l.fn.text l.reading (left l.rest)

abbrev pub decreases-wanted : goal.decreases-wanted
decreases-wanted l = length (left l.rest)

use Rattle.px_machine.proofs.PrintSteps.{IsPrinted}
use Rattle.px_machine.proofs.flat_value.FlatValue.print.Given as goal

abbrev pub invariant-loop-cell : goal.invariant-loop-cell
invariant-loop-cell l = IsPrinted l.names l.self l.cell-items l.cell-index l.text l.levels

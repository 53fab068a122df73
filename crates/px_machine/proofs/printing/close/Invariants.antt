use Rattle.std.proofs.Common.{reverse, length}
use Rattle.px_machine.proofs.PrintSteps.{IsClosing}
use Rattle.px_machine.proofs.printing.close.Given as goal

abbrev pub invariant-loop-more : goal.invariant-loop-more
invariant-loop-more l = IsClosing l.initial.text (reverse l.initial.levels) l.text (reverse l.levels)

abbrev pub decreases-loop-more : goal.decreases-loop-more
decreases-loop-more l = length l.levels

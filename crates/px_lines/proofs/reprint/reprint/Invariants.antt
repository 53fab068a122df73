use Rattle.std.proofs.Common.{◌≤◌, ◌-◌, length}
use Rattle.px_lines.proofs.reprint.reprint.Given as goal

abbrev pub invariant-loop-start : goal.invariant-loop-start
invariant-loop-start g l = l.at ≤ length l.text

abbrev pub decreases-loop-start : goal.decreases-loop-start
decreases-loop-start g l = length l.initial.text - l.at

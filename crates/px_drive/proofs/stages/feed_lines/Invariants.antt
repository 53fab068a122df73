use Rattle.std.proofs.Common.{◌-◌, length}
use Rattle.px_drive.proofs.Feedings.{HasFedTo}
use Rattle.px_drive.proofs.stages.feed_lines.Given as goal

abbrev pub invariant-loop-start : goal.invariant-loop-start
invariant-loop-start l = HasFedTo l.fn.replay.program l.text l.replay l.at l.number

abbrev pub decreases-loop-start : goal.decreases-loop-start
decreases-loop-start l = length l.text - l.at

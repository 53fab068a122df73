use Rattle.px_drive.specs.Seen.{sink_seen}
use Rattle.px_drive.proofs.RunSteps.{Going}
use Rattle.px_drive.proofs.run.run_events.Given as goal

abbrev pub invariant-loop-number : goal.invariant-loop-number
invariant-loop-number g l = Going l.fn.checked l.fn.schedule l.calls l.number l.world (sink_seen g.O.Sink l.fn.out l.out)

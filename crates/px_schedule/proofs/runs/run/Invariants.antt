use Rattle.std.proofs.Common.{◌≡◌, ◌+◌, drop}
use Rattle.std.specs.List.{prefix_len}
use Rattle.px_schedule.specs.Runs.{is_in}
use Rattle.px_schedule.proofs.runs.run.Given as goal

abbrev pub invariant-loop-at : goal.invariant-loop-at
invariant-loop-at l = l.at + prefix_len (is_in l.class) (drop l.at l.bytes) ≡ prefix_len (is_in l.class) l.bytes

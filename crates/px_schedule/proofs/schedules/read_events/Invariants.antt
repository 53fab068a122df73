use Rattle.std.proofs.Common.{◌+◌, ◌≤◌, length}
use Rattle.px_schedule.specs.Fields.{AreTaken}
use Rattle.px_schedule.proofs.schedules.read_events.Given as goal

abbrev pub invariant-lines : goal.invariant-lines
invariant-lines l = record {
  taken : AreTaken l.checked l.opened l.text l.line l.taken l.rest;
  few : l.taken.messages ≤ length l.taken.events;
  room : l.line + length l.rest ≤ length l.text + 2;
}

abbrev pub decreases-lines : goal.decreases-lines
decreases-lines l = length l.rest

use Rattle.std.proofs.Common.{length, reverse}
use Rattle.px_schedule.proofs.FieldLoop.{AreTurned}
use Rattle.px_schedule.proofs.wanted.want_fields.Given as goal

abbrev pub invariant-fields : goal.invariant-fields
invariant-fields l = AreTurned l.initial.types l.types (reverse l.wanted) (reverse l.fn.wanted)

abbrev pub decreases-fields : goal.decreases-fields
decreases-fields l = length l.types

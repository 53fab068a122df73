use Rattle.std.proofs.Common.{length, ◌-◌}
use Rattle.px_world.proofs.Loops.{WroteFront}
use Rattle.px_world.proofs.writing.write_all.Given as goal

-- the bytes up to `at` were written
abbrev pub invariant-loop-at : goal.invariant-loop-at
invariant-loop-at g l =
    WroteFront (g.S.Sink.written l.fn.sink) (g.S.Sink.written l.sink) (g.S.Sink.faults l.fn.sink) (g.S.Sink.faults l.sink) l.bytes l.at

abbrev pub decreases-loop-at : goal.decreases-loop-at
decreases-loop-at g l = length l.bytes - l.at

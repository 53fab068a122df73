use Rattle.std.proofs.Common.{arith}
use Rattle.px_drive.proofs.Pieces.{AppendsPrefix-at}
use Rattle.px_drive.proofs.messages.write_pieces.Goals as goal

pub returns-in-Err-clause-writes : goal.returns-in-Err-clause-writes
returns-in-Err-clause-writes g c =
    (AppendsPrefix-at _ _ _ _ _ _ c.loop-piece-test.true c.loop-piece.invariant.wrote c.in-Err.ensures.writes.0, omega (arith, c.loop-piece.invariant.later, c.in-Err.ensures.writes.1))

use Rattle.std.proofs.Common.{take}
use Rattle.px_drive.proofs.Pieces.{WroteSome}
use Rattle.px_drive.proofs.messages.write_pieces.Given as goal

abbrev pub invariant-loop-piece : goal.invariant-loop-piece
invariant-loop-piece g l = WroteSome (g.S.Sink.written l.fn.sink) (g.S.Sink.written l.sink) (g.S.Sink.faults l.fn.sink) (g.S.Sink.faults l.sink) (take l.piece-index l.pieces)

use Rattle.px_drive.specs.Seen.{sink_seen}
use Rattle.px_drive.proofs.Pieces.{writes_of}
use Rattle.px_drive.proofs.messages.write_line.Goals as goal

pub returns-clause-writes : goal.returns-clause-writes
returns-clause-writes g c = writes_of c.args.line.now (sink_seen g.S.Sink c.args.sink.now c.write_all.new.sink) _ c.write_all.ensures.ok c.write_all.ensures.prefix c.write_all.ensures.fault

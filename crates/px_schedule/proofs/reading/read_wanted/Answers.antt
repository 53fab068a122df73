use Rattle.px_schedule.specs.Runs.{left}
use Rattle.px_schedule.proofs.MarkReads.{mark_read, mark_refused}
use Rattle.px_schedule.proofs.reading.read_wanted.Goals as goal

pub returns-in-Some-clause-step : goal.returns-in-Some-clause-step
returns-in-Some-clause-step c =
    mark_read c.args.program.now c.args.wanted.now c.in-Mark.mark c.in-Mark.is c.args.reading.now (left c.args.text) (left c.in-Some.rest) c.requires.no_space c.in-Some.ensures c.requires.wants c.requires.room

pub returns-in-None-clause-stuck : goal.returns-in-None-clause-stuck
returns-in-None-clause-stuck c =
    mark_refused c.args.program.now c.args.wanted.now c.in-Mark.mark c.in-Mark.is _ (left c.args.text) c.args.reading.now.cells c.requires.no_space c.in-None.ensures

use Rattle.px_schedule.specs.Runs.{left}
use Rattle.px_schedule.proofs.MarkReads.{read_spaced, refused_spaced}
use Rattle.px_schedule.proofs.reading.read_next.Goals as goal

pub returns-clause-step : goal.returns-clause-step
returns-clause-step c =
    read_spaced c.args.program.now c.requires.lawful c.args.wanted.now c.args.reading.now c.read_wanted.new.reading c.requires.wants (left c.args.text) c.split_run.result.0.now (left c.split_run.result.1) c.split_run.ensures c.read_wanted.result c.read_wanted.ensures.step

pub returns-clause-stuck : goal.returns-clause-stuck
returns-clause-stuck c =
    refused_spaced c.args.program.now c.requires.lawful _ c.requires.wants (left c.args.text) c.split_run.result.0.now (left c.split_run.result.1) c.split_run.ensures c.args.reading.now.cells c.read_wanted.result c.read_wanted.ensures.stuck

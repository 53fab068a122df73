use Rattle.px_schedule.proofs.RunFacts.{run_is}
use Rattle.px_schedule.proofs.rest.Rest.split_run.Goals as goal

pub returns : goal.returns
returns c = run_is c.args.class c.args.self.bytes.now c.split_at.result.0.now c.split_at.result.1.now c.run-end.result c.run-end.ensures.long c.split_at.ensures.front c.split_at.ensures.back

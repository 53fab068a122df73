use Rattle.std.proofs.Common.{arith}
use Rattle.px_replicas.proofs.VersionSteps.{all_first}
use Rattle.px_replicas.proofs.versions.Versions.new.Goals as goal

pub returns-clause-replicas : goal.returns-clause-replicas
returns-clause-replicas c =
    all_first c.new-kept.result.items c.push.new.self.items c.args.version c.loop.replicas c.loop.counter c.args.count c.new-kept.ensures.items c.in_ok-push.ensures.items
    c.loop.invariant (omega arith)

use Rattle.std.proofs.Common.{ap, get_or}
use Rattle.px_replicas.proofs.VersionSteps.{sends}
use Rattle.px_replicas.proofs.versions.Versions.send.Goals as goal

pub returns-clause-sent : goal.returns-clause-sent
returns-clause-sent c =
    sends c.args.self.now c.args.replica (get_or c.as_slice.result.now c.args.replica 0) c.self.inside.kept.items c.note_sent.new.kept.items c.self.inside.replicas c.self.inside.messages c.push.new.self
    c.self.view_is c.requires (ap (λ numbers. get_or numbers c.args.replica 0) c.as_slice.ensures) c.in_ok-push.ensures.ok c.note_sent.ensures

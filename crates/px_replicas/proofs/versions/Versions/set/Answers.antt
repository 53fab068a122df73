use Rattle.std.proofs.Common.{refl, arith, ap, subst, get_or}
use Rattle.px_replicas.specs.Keeping.{IsAlone}
use Rattle.px_replicas.proofs.VersionSteps.{replaced, added}
use Rattle.px_replicas.proofs.versions.Versions.set.Goals as goal

pub returns-then-is_alone-clause-set : goal.returns-then-is_alone-clause-set
returns-then-is_alone-clause-set c =
    let alone = subst (λ numbers. IsAlone c.self.inside.kept.items numbers c.args.replica) c.as_slice.ensures (c.is_alone.ensures.0 c.if-is_alone.true) in
    replaced c.args.self.now c.args.replica c.args.version c.self.inside.kept.items _ c.self.inside.replicas c.self.inside.messages c.self.view_is c.requires c.self.invariant
    (get_or c.as_slice-then-is_alone.result.now c.args.replica 0) (ap (λ numbers. get_or numbers c.args.replica 0) c.as_slice-then-is_alone.ensures) refl alone

pub returns-in_ok-push-clause-set : goal.returns-in_ok-push-clause-set
returns-in_ok-push-clause-set c =
    added c.args.self.now c.args.replica c.args.version c.self.inside.kept.items c.push.new.self.items c.self.inside.replicas c.self.inside.messages c.self.view_is c.requires c.self.invariant
    c.len-number.result c.set.new.self (omega (arith, c.len-number.ensures, c.self.inside.kept.ok)) c.in_ok-push.ensures.items c.set.ensures

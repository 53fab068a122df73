use Rattle.std.proofs.Common.{◌≡◌, true, false, sym, ◌∙◌}
use Rattle.px_replay.proofs.AcceptLemmas.{accepted, accepted_holds, not_accepted}
use Rattle.px_replay.proofs.replays.Replay.finish.Goals as goal

pub returns-then-not-is_ended-clause-stands : goal.returns-then-not-is_ended-clause-stands
returns-then-not-is_ended-clause-stands c =
    not_accepted c.one_state.ensures c.ends_are_derivations.ensures c.self.inside.all.now c.checked-checked.ensures.checked c.self.inside.progress c.self.inside.fed c.self.inside.refusal c.args.self c.self.view_is
    (λ all. (let e : false ≡ true = sym c.if-not-is_ended.true ∙ c.is_ended.ensures.1 all in cc))

pub returns-clause-stands : goal.returns-clause-stands
returns-clause-stands c =
    accepted c.ends_are_derivations.ensures c.self.inside.all.now c.self.inside.progress c.self.inside.fed c.self.inside.refusal c.args.self c.count-obligations.result c.self.view_is (c.is_ended.ensures.0 c.if-not-is_ended.false) c.count-obligations.ensures

pub returns-clause-holds : goal.returns-clause-holds
returns-clause-holds c =
    accepted_holds c.ends_are_derivations.ensures c.derivations_are_sound.ensures c.self.inside.all.now c.checked-checked.ensures.checked c.self.inside.progress c.self.inside.fed c.self.inside.refusal c.args.self c.self.view_is c.self.invariant c.in_default.is
    (c.is_ended.ensures.0 c.if-not-is_ended.false)

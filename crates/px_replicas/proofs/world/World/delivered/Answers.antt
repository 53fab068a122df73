use Rattle.std.proofs.Common.{sym, subst}
use Rattle.px_terms.specs.declared.program.ReplicaDef.{ReplicaDef}
use Rattle.px_replicas.specs.Held.{IsUnion}
use Rattle.px_replicas.specs.Keeping.{AreInOrder}
use Rattle.px_replicas.specs.declared.version.Version.{Version}
use Rattle.px_replicas.specs.Worlds.{Standing, Runs}
use Rattle.px_replicas.specs.Serving.{standing_of, IsDelivered, Delivers}
use Rattle.px_replicas.proofs.WorldSteps.{can_merge_both, delivered_so, deliver_ends}
use Rattle.px_replicas.proofs.world.World.delivered.Goals as goal

pub union-requires-clause-one : goal.union-requires-clause-one
union-requires-clause-one c =
    subst AreInOrder (sym c.as_slice.ensures) (c.self.invariant.replicas.each c.args.replica c.replica-before.result.now c.replica-before.ensures).rising

pub union-requires-clause-other : goal.union-requires-clause-other
union-requires-clause-other c =
    subst AreInOrder (sym c.as_slice-2.ensures) (c.self.invariant.messages.each c.args.message c.message-sent.result.now c.message-sent.ensures).rising

pub run-requires : goal.run-requires
run-requires c =
    let w : Standing = standing_of c.self.inside.checked.now c.self.inside.declaration c.self.inside.versions c.self.inside.updates c.self.inside.events in
    can_merge_both w c.self.inside.merge c.self.invariant c.args.message c.args.replica c.replica-before.result.now c.message-sent.result.now c.replica-before.ensures c.message-sent.ensures

pub returns-in_err-state : goal.returns-in_err-state
returns-in_err-state c =
    let w : Standing = standing_of c.self.inside.checked.now c.self.inside.declaration c.self.inside.versions c.self.inside.updates c.self.inside.events in
    let before = c.replica-before.result.now in
    let sent = c.message-sent.result.now in
    let one = subst (λ ns. IsUnion ns c.as_slice-2.result.now c.in_ok-numbers.numbers) c.as_slice.ensures c.in_ok-numbers.ensures in
    let union = subst (λ ns. IsUnion before.numbers ns c.in_ok-numbers.numbers) c.as_slice-2.ensures one in
    let there =
    deliver_ends w c.self.inside.merge c.self.invariant c.args.message c.args.replica c.args.budget before sent c.in_ok-numbers.numbers c.replica-before.ensures c.message-sent.ensures union
    c.in_err-state.field-0.0 c.in_err-state.ensures c.from_residual-in_err-state.result c.from_residual-in_err-state.ensures in
    subst (λ (s : Standing). (R : ReplicaDef) → Runs s s.program R → Delivers s R c.args.message c.args.replica c.args.budget c.from_residual-in_err-state.result) c.self.view_is there

pub returns : goal.returns
returns c =
    let w : Standing = standing_of c.self.inside.checked.now c.self.inside.declaration c.self.inside.versions c.self.inside.updates c.self.inside.events in
    let before = c.replica-before.result.now in
    let sent = c.message-sent.result.now in
    let next : Version = record { numbers = c.in_ok-numbers.numbers; state = c.in_ok-state.state } in
    let one = subst (λ ns. IsUnion ns c.as_slice-2.result.now c.in_ok-numbers.numbers) c.as_slice.ensures c.in_ok-numbers.ensures in
    let union = subst (λ ns. IsUnion before.numbers ns c.in_ok-numbers.numbers) c.as_slice-2.ensures one in
    let there =
    delivered_so w c.self.inside.merge c.self.invariant c.args.message c.args.replica c.args.budget before sent next c.replica-before.ensures c.message-sent.ensures c.in_ok-state.ensures union in
    subst (λ (s : Standing). (R : ReplicaDef) → Runs s s.program R → IsDelivered s R c.args.message c.args.replica c.args.budget next) c.self.view_is there

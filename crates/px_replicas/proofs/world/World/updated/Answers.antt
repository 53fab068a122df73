use Rattle.std.proofs.Common.{◌++◌, ◌∷◌, [], ap, sym, ◌∙◌, subst}
use Rattle.px_terms.specs.declared.program.ReplicaDef.{ReplicaDef}
use Rattle.px_replicas.specs.declared.version.Version.{Version}
use Rattle.px_replicas.specs.Worlds.{Standing, Runs}
use Rattle.px_replicas.specs.Serving.{standing_of, IsOfState, IsUpdated, Updates}
use Rattle.px_replicas.proofs.WorldSteps.{can_merge, updated_so, update_ends}
use Rattle.px_replicas.proofs.world.World.updated.Goals as goal

pub run-requires : goal.run-requires
run-requires c =
    let w : Standing = standing_of c.self.inside.checked.now c.self.inside.declaration c.self.inside.versions c.self.inside.updates c.self.inside.events in
    can_merge w c.self.inside.merge c.self.invariant c.args.replica c.replica-before.result.now c.args.value.now c.replica-before.ensures
    (subst (λ s. IsOfState s c.args.value.now) (sym c.self.view_is) c.requires.value)

pub returns-in_err-state : goal.returns-in_err-state
returns-in_err-state c =
    let w : Standing = standing_of c.self.inside.checked.now c.self.inside.declaration c.self.inside.versions c.self.inside.updates c.self.inside.events in
    let is_state = subst (λ s. IsOfState s c.args.value.now) (sym c.self.view_is) c.requires.value in
    let there =
    update_ends w c.self.inside.merge c.self.invariant c.args.replica c.args.value.now c.args.budget c.replica-before.result.now c.replica-before.ensures is_state c.in_err-state.field-0.0
    c.in_err-state.ensures c.from_residual-in_err-state.result c.from_residual-in_err-state.ensures in
    subst (λ (s : Standing). (R : ReplicaDef) → Runs s s.program R → Updates s R c.args.replica c.args.value.now c.args.budget c.from_residual-in_err-state.result) c.self.view_is there

pub returns : goal.returns
returns c =
    let w : Standing = standing_of c.self.inside.checked.now c.self.inside.declaration c.self.inside.versions c.self.inside.updates c.self.inside.events in
    let is_state = subst (λ s. IsOfState s c.args.value.now) (sym c.self.view_is) c.requires.value in
    let next : Version = record { numbers = c.in_ok-numbers.numbers; state = c.in_ok-state.state } in
    let numbers = c.in_ok-numbers.ensures ∙ ap (λ ns. ns ++ c.self.inside.updates ∷ []) c.as_slice.ensures in
    let there =
    updated_so w c.self.inside.merge c.self.invariant c.args.replica c.args.value.now c.args.budget c.replica-before.result.now next c.replica-before.ensures is_state c.in_ok-state.ensures numbers in
    subst (λ (s : Standing). (R : ReplicaDef) → Runs s s.program R → IsUpdated s R c.args.replica c.args.value.now c.args.budget next) c.self.view_is there

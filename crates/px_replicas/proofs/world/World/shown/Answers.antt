use Rattle.std.proofs.Common.{subst}
use Rattle.px_replicas.specs.declared.shown.Shown.{Shown}
use Rattle.px_replicas.specs.Worlds.{Standing}
use Rattle.px_replicas.specs.Serving.{standing_of, IsShown}
use Rattle.px_replicas.proofs.WorldSteps.{shown_so}
use Rattle.px_replicas.proofs.world.World.shown.Goals as goal

pub returns : goal.returns
returns c =
    let w : Standing = standing_of c.self.inside.checked.now c.self.inside.declaration c.self.inside.versions c.self.inside.updates c.self.inside.events in
    let what : Shown = record { replica = c.args.replica; numbers = c.in_ok-from_slice.field-0; value = c.in_ok-copy.field-0 } in
    subst (λ (s : Standing). IsShown s c.args.replica what) c.self.view_is
    (shown_so w c.args.replica c.replica-version.result.now c.as_slice.result.now c.in_ok-from_slice.field-0 c.in_ok-copy.field-0 c.replica-version.ensures c.as_slice.ensures
    c.in_ok-from_slice.ensures c.in_ok-copy.ensures)

use Rattle.std.proofs.Common.{◌+◌, Some, refl, sym, subst}
use Rattle.px_schedule.specs.declared.schedule.Event.TheVariants as event
use Rattle.px_replicas.specs.Worlds.{Standing, Fits, HappensWithin}
use Rattle.px_replicas.specs.Serving.{standing_of, IsShown}
use Rattle.px_replicas.proofs.WorldSteps.{show_kept, show_taken}
use Rattle.px_replicas.proofs.world.World.show.Goals as goal

pub invariant_of-self : goal.invariant_of-self
invariant_of-self c =
    let w : Standing = standing_of c.self.inside.checked.now c.self.inside.declaration c.self.inside.versions c.self.inside.updates c.self.inside.events in
    let fits : Fits w (event.Show c.args.replica) = subst (λ s. Fits s (event.Show c.args.replica)) (sym c.self.view_is) c.requires.fits in
    show_kept w c.self.inside.merge c.self.invariant fits.room

pub returns : goal.returns
returns c P R budget runs =
    let w : Standing = standing_of c.self.inside.checked.now c.self.inside.declaration c.self.inside.versions c.self.inside.updates c.self.inside.events in
    let new : Standing = standing_of c.self.inside.checked.now c.self.inside.declaration c.self.inside.versions c.self.inside.updates (c.self.inside.events + 1) in
    let shown = subst (λ s. IsShown s c.args.replica c.in_ok-shown.shown) (sym c.self.view_is) c.in_ok-shown.ensures in
    subst (λ (s : Standing). HappensWithin s P R (event.Show c.args.replica) budget new (Some c.in_ok-shown.shown)) c.self.view_is
    (show_taken w c.args.replica budget new c.in_ok-shown.shown shown refl P R)

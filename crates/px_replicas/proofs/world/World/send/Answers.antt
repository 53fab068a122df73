use Rattle.std.proofs.Common.{◌+◌, None, refl, sym, subst}
use Rattle.px_schedule.specs.declared.schedule.Event.TheVariants as event
use Rattle.px_replicas.specs.Worlds.{Standing, Fits, HappensWithin}
use Rattle.px_replicas.specs.Serving.{standing_of}
use Rattle.px_replicas.proofs.WorldSteps.{send_kept, send_taken}
use Rattle.px_replicas.proofs.world.World.send.Goals as goal

pub invariant_of-self-2 : goal.invariant_of-self-2
invariant_of-self-2 c =
    let w : Standing = standing_of c.self.inside.checked.now c.self.inside.declaration c.self.inside.versions c.self.inside.updates c.self.inside.events in
    let fits : Fits w (event.Send c.args.replica) = subst (λ s. Fits s (event.Send c.args.replica)) (sym c.self.view_is) c.requires.fits in
    send_kept w c.self.inside.merge c.self.invariant c.args.replica c.self.inside.versions c.send.new.self refl refl fits.room c.in_ok-send.ensures.sent

pub returns : goal.returns
returns c P R budget runs =
    let w : Standing = standing_of c.self.inside.checked.now c.self.inside.declaration c.self.inside.versions c.self.inside.updates c.self.inside.events in
    let new = standing_of c.self.inside.checked.now c.self.inside.declaration c.send.new.self c.self.inside.updates (c.self.inside.events + 1) in
    subst (λ (s : Standing). HappensWithin s P R (event.Send c.args.replica) budget new None) c.self.view_is
    (send_taken w c.args.replica budget c.self.inside.versions c.send.new.self refl refl c.in_ok-send.ensures.sent P R)

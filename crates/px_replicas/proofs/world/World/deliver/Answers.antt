use Rattle.std.proofs.Common.{◌+◌, None, sym, subst}
use Rattle.px_terms.specs.declared.program.Program.{Program}
use Rattle.px_terms.specs.declared.program.ReplicaDef.{ReplicaDef}
use Rattle.px_schedule.specs.declared.schedule.Event.TheVariants as event
use Rattle.px_replicas.specs.Worlds.{Standing, Runs, Fits, HappensWithin}
use Rattle.px_replicas.specs.Serving.{standing_of, IsDelivered}
use Rattle.px_replicas.proofs.WorldSteps.{deliver_kept, deliver_taken}
use Rattle.px_replicas.proofs.world.World.deliver.Goals as goal

pub invariant_of-self-2 : goal.invariant_of-self-2
invariant_of-self-2 c =
    let w : Standing = standing_of c.self.inside.checked.now c.self.inside.declaration c.self.inside.versions c.self.inside.updates c.self.inside.events in
    let next = c.in_ok-version.version in
    let fits : Fits w (event.Deliver c.args.message c.args.replica) = subst (λ s. Fits s (event.Deliver c.args.message c.args.replica)) (sym c.self.view_is) c.requires.fits in
    let it = subst (λ (s : Standing). (R : ReplicaDef) → Runs s s.program R → IsDelivered s R c.args.message c.args.replica c.args.budget next) (sym c.self.view_is) c.in_ok-version.ensures in
    deliver_kept w c.self.inside.merge c.self.invariant c.args.message c.args.replica c.args.budget next c.set.new.self fits.room it c.in_ok-set.ensures.set

pub returns : goal.returns
returns c =
    let w : Standing = standing_of c.self.inside.checked.now c.self.inside.declaration c.self.inside.versions c.self.inside.updates c.self.inside.events in
    let next = c.in_ok-version.version in
    let it = subst (λ (s : Standing). (R : ReplicaDef) → Runs s s.program R → IsDelivered s R c.args.message c.args.replica c.args.budget next) (sym c.self.view_is) c.in_ok-version.ensures in
    let there = deliver_taken w c.self.inside.merge c.self.invariant c.args.message c.args.replica c.args.budget next c.set.new.self it c.in_ok-set.ensures.set in
    let new = standing_of c.self.inside.checked.now c.self.inside.declaration c.set.new.self c.self.inside.updates (c.self.inside.events + 1) in
    subst (λ (s : Standing). (P : Program) (R : ReplicaDef) → Runs s P R → HappensWithin s P R (event.Deliver c.args.message c.args.replica) c.args.budget new None) c.self.view_is there

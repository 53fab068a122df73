use Rattle.px_replicas.specs.Serving.{standing_of}
use Rattle.px_replicas.proofs.WorldSteps.{founded_so}
use Rattle.px_replicas.proofs.world.World.founded.Goals as goal

pub returns : goal.returns
returns c =
    let w = standing_of c.self.inside.checked.now c.self.inside.declaration c.self.inside.versions c.self.inside.updates c.self.inside.events in
    founded_so w c.self.inside.merge c.args.self.now c.self.view_is c.program-program.ensures.checked c.self.invariant

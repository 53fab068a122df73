use Rattle.std.proofs.Common.{arith, ◌<◌}
use Rattle.std.proofs.lemmas.Bool.{ltb-true, lt-ltb}
use Rattle.px_types.proofs.MetSteps.{con_met_is}
use Rattle.px_types.proofs.met.con_met.Goals as goal

pub returns-then-nodes-lt-TYPE_NODES : goal.returns-then-nodes-lt-TYPE_NODES
returns-then-nodes-lt-TYPE_NODES c d =
    con_met_is c.args.env.now.place d c.args.args.now c.size_of_tys-nodes.result c.depth_of_tys-depth.result _
    (rw c.as_slice.ensures at c.size_of_tys-nodes.ensures) (rw c.as_slice-2.ensures at c.depth_of_tys-depth.ensures)
    (λ t. (c.if-nodes-lt-TYPE_NODES.true, ltb-true _ _ t), λ p. lt-ltb _ _ p.1)

pub returns-else-nodes-lt-TYPE_NODES : goal.returns-else-nodes-lt-TYPE_NODES
returns-else-nodes-lt-TYPE_NODES c d =
    con_met_is c.args.env.now.place d c.args.args.now c.size_of_tys-nodes.result c.depth_of_tys-depth.result _
    (rw c.as_slice.ensures at c.size_of_tys-nodes.ensures) (rw c.as_slice-2.ensures at c.depth_of_tys-depth.ensures)
    (λ t. let below : c.size_of_tys-nodes.result < 20000 = ltb-true _ _ t in absurd (omega arith), λ p. lt-ltb _ _ p.0)

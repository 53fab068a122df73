use Rattle.px_terms.specs.Terms.{term_size}
use Rattle.px_prover.proofs.LeafRooms.{nodes_fit}
use Rattle.px_prover.proofs.leaf_rooms.has_nodes.Goals as goal

pub returns : goal.returns
returns c = nodes_fit (term_size c.args.side.whole.now) c.args.side.count (term_size c.args.side.before.now) (term_size c.args.now.now) c.size-nodes.result c.size-before.result c.size.result
    c.size-nodes.ensures c.size-before.ensures c.size.ensures c.requires.whole c.requires.part c.if-side-eq0.false c.if-nodes-before.false

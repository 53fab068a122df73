use Rattle.std.proofs.Common.{Option, unwrap_or, ap}
use Rattle.px_terms.specs.declared.term.Term.{Term}
use Rattle.px_prover.proofs.LeafRooms.{no_room, room_by_levels}
use Rattle.px_prover.proofs.leaf_rooms.has_room.Goals as goal

pub returns-then-not-has_nodes : goal.returns-then-not-has_nodes
returns-then-not-has_nodes c = no_room c.args.side.count c.args.side.whole.now c.args.side.path.now c.args.side.before.now c.args.now.now c.has_nodes.result c.has_nodes.ensures c.if-not-has_nodes.true

pub returns-in-Some : goal.returns-in-Some
returns-in-Some c = room_by_levels c.args.side.count c.args.side.whole.now c.args.side.path.now c.args.side.before.now c.args.now.now c.has_nodes.result c.has_nodes.ensures c.if-not-has_nodes.false
    c.in_ok-whole.field-0 c.in_ok-whole.ensures c.in-Some.whole (ap (λ (o : Option Term). unwrap_or o c.args.now.now) c.in-Some.is) c.depth.result c.depth.ensures

pub returns-in-None : goal.returns-in-None
returns-in-None c = room_by_levels c.args.side.count c.args.side.whole.now c.args.side.path.now c.args.side.before.now c.args.now.now c.has_nodes.result c.has_nodes.ensures c.if-not-has_nodes.false
    c.in_ok-whole.field-0 c.in_ok-whole.ensures c.args.now.now (ap (λ (o : Option Term). unwrap_or o c.args.now.now) c.in-None.is) c.depth-in-None.result c.depth-in-None.ensures

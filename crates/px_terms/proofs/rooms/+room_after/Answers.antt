use Rattle.px_terms.specs.Types.{ty_depth, ty_size}
use Rattle.px_terms.proofs.RoomLemmas.{room_next, no_room}
use Rattle.px_terms.proofs.rooms.+room_after.Goals as goal

pub room_after_each-returns-in_default : goal.room_after_each-returns-in_default
room_after_each-returns-in_default t c = no_room ty_size ty_depth c.args.types.now c.loop-ty.ty-index c.ty-item.result c.loop-ty.left c.args.nodes c.args.depth c.loop-ty-test.true c.ty-item.is c.loop-ty.invariant.0 c.loop-ty.invariant.1 c.in_default.ensures

pub room_after_each-loop-ty-preserved : goal.room_after_each-loop-ty-preserved
room_after_each-loop-ty-preserved t c = room_next ty_size ty_depth c.args.types.now c.loop-ty.ty-index c.ty-item.result c.loop-ty.left c.args.nodes c.args.depth c.loop-ty-test.true c.ty-item.is c.loop-ty.invariant.0 c.loop-ty.invariant.1 c.in-Some.after c.in-Some.ensures

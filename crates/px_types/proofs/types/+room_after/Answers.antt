use Rattle.px_types.specs.Faults.{raw_ty_depth, raw_ty_size}
use Rattle.px_types.proofs.TypesExact.{raw_room}
use Rattle.px_types.proofs.RoomLemmas.{room_next, no_room}
use Rattle.px_types.proofs.types.+room_after.Goals as goal

pub room_after_each-returns-in_default : goal.room_after_each-returns-in_default
room_after_each-returns-in_default t c = no_room raw_ty_size raw_ty_depth c.args.raws.now c.loop-raw.raw-index c.raw-item.result c.loop-raw.left c.args.nodes c.args.depth c.loop-raw-test.true c.raw-item.is c.loop-raw.invariant.0 c.loop-raw.invariant.1 c.in_default.ensures

pub room_after_each-loop-raw-preserved : goal.room_after_each-loop-raw-preserved
room_after_each-loop-raw-preserved t c = room_next raw_ty_size raw_ty_depth c.args.raws.now c.loop-raw.raw-index c.raw-item.result c.loop-raw.left c.args.nodes c.args.depth c.loop-raw-test.true c.raw-item.is c.loop-raw.invariant.0 c.loop-raw.invariant.1 c.in-Some.after c.in-Some.ensures

pub room_after-returns : goal.room_after-returns
room_after-returns t c = raw_room c.args.raw.now c.as_slice.result.now c.as_slice.ensures c.args.nodes c.args.depth c.room_after_each.result c.if-nodes-eq0.false c.if-depth-eq0.false c.room_after_each.ensures

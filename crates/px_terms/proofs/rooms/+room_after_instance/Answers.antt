use Rattle.std.proofs.Common.{◌≡◌, ◌<◌, ℕ, List, length, get_or, ap, ◌∙◌, sym, arith}
use Rattle.std.proofs.lemmas.List.{length-map, get_or-map, take_all}
use Rattle.px_terms.specs.declared.types.Ty.{Ty}
use Rattle.px_terms.specs.Types.{ty_depth, ty_instance, ty_size, tys_instance}
use Rattle.px_terms.proofs.RoomLemmas.{room_next, no_room}
use Rattle.px_terms.proofs.rooms.+room_after_instance.Goals as goal

below : (types tys : List Ty) (i : ℕ) → i < length tys → i < length (tys_instance types tys)
below types tys i h = rw length-map h

item : (types tys : List Ty) (i : ℕ) (T : Ty) → i < length tys → T ≡ get_or tys i T → ty_instance types T ≡ get_or (tys_instance types tys) i (ty_instance types T)
item types tys i T h is = ap (ty_instance types) is ∙ sym (get_or-map (ty_instance types) tys i T (ty_instance types T) h)

pub room_after_instances-returns-in_default : goal.room_after_instances-returns-in_default
room_after_instances-returns-in_default t c =
    let ts = c.args.types.now in
    let tys = c.args.tys.now in
    let i = c.loop-ty.ty-index in
    no_room ty_size ty_depth (tys_instance ts tys) i (ty_instance ts c.ty-item.result) c.loop-ty.left c.args.nodes c.args.depth (below ts tys i c.loop-ty-test.true) (item ts tys i c.ty-item.result c.loop-ty-test.true c.ty-item.is) c.loop-ty.invariant.0 c.loop-ty.invariant.1 c.in_default.ensures

pub room_after_instances-loop-ty-preserved : goal.room_after_instances-loop-ty-preserved
room_after_instances-loop-ty-preserved t c =
    let ts = c.args.types.now in
    let tys = c.args.tys.now in
    let i = c.loop-ty.ty-index in
    room_next ty_size ty_depth (tys_instance ts tys) i (ty_instance ts c.ty-item.result) c.loop-ty.left c.args.nodes c.args.depth (below ts tys i c.loop-ty-test.true) (item ts tys i c.ty-item.result c.loop-ty-test.true c.ty-item.is) c.loop-ty.invariant.0 c.loop-ty.invariant.1 c.in-Some.after c.in-Some.ensures

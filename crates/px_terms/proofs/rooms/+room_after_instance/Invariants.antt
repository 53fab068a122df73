use Rattle.std.proofs.Common.{◌≡◌, ◌≤◌, ◌+◌, take}
use Rattle.px_terms.specs.Types.{tys_depth, tys_instance, tys_size}
use Rattle.px_terms.proofs.rooms.+room_after_instance.Given as goal

abbrev pub invariant-room_after_instances-loop-ty : goal.invariant-room_after_instances-loop-ty
invariant-room_after_instances-loop-ty l = (l.left + tys_size (take l.ty-index (tys_instance l.types l.tys)) ≡ l.nodes) × (tys_depth (take l.ty-index (tys_instance l.types l.tys)) ≤ l.depth)

use Rattle.std.proofs.Common.{◌≡◌, ◌≤◌, ◌+◌, take}
use Rattle.px_terms.specs.Types.{tys_depth, tys_size}
use Rattle.px_terms.proofs.rooms.+room_after.Given as goal

abbrev pub invariant-room_after_each-loop-ty : goal.invariant-room_after_each-loop-ty
invariant-room_after_each-loop-ty l = (l.left + tys_size (take l.ty-index l.types) ≡ l.nodes) × (tys_depth (take l.ty-index l.types) ≤ l.depth)

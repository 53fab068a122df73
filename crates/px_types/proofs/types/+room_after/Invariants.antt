use Rattle.std.proofs.Common.{◌≡◌, ◌≤◌, ◌+◌, take, map}
use Rattle.std.specs.Prelude.{sum}
use Rattle.px_base.specs.Largest.{largest}
use Rattle.px_types.specs.Faults.{raw_ty_depth, raw_ty_size}
use Rattle.px_types.proofs.types.+room_after.Given as goal

abbrev pub invariant-room_after_each-loop-raw : goal.invariant-room_after_each-loop-raw
invariant-room_after_each-loop-raw l = (l.left + sum (map raw_ty_size (take l.raw-index l.raws)) ≡ l.nodes) × (largest (map raw_ty_depth (take l.raw-index l.raws)) ≤ l.depth)

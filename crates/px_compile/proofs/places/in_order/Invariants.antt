use Rattle.std.proofs.Common.{◌≡◌, ◌++◌, length, map, reverse}
use Rattle.px_compile.specs.Layout.{placed, placed_instruction}
use Rattle.px_compile.proofs.places.in_order.Given as goal

abbrev pub invariant-loop-instr : goal.invariant-loop-instr
invariant-loop-instr l = l.code ++ map (placed_instruction l.total) (reverse l.backwards.items) ≡ placed (reverse l.fn.backwards.items)

abbrev pub decreases-loop-instr : goal.decreases-loop-instr
decreases-loop-instr l = length l.backwards.items

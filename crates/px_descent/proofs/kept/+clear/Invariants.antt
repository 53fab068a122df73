use Rattle.std.proofs.Common.{map, take}
use Rattle.px_terms.specs.Descent.{calls_in}
use Rattle.px_descent.specs.Around.{bound_of}
use Rattle.px_descent.specs.Kept.{walked, arm_calls, Clears}
use Rattle.px_descent.proofs.kept.+clear.Given as goal

abbrev pub invariant-clear_in_parts-loop-part : goal.invariant-clear_in_parts-loop-part
invariant-clear_in_parts-loop-part l =
    Clears l.positions.first (calls_in (map (walked l.positions) (take l.part-index l.parts)) (bound_of l.around)) l.initial.kept l.kept

abbrev pub invariant-clear_in_arms-loop-con : goal.invariant-clear_in_arms-loop-con
invariant-clear_in_arms-loop-con l =
    Clears l.positions.first (arm_calls l.positions.program.now l.matched (map (walked l.positions) (take l.con l.arms))) l.initial.kept l.kept

use Rattle.std.proofs.Common.{map, take}
use Rattle.px_terms.specs.Descent.{calls_in}
use Rattle.px_descent.specs.Around.{bound_of}
use Rattle.px_descent.specs.Kept.{arm_calls}
use Rattle.px_descent.specs.Searches.{searched, AllLowered}
use Rattle.px_descent.proofs.stuck.+pass.Given as goal

abbrev pub invariant-pass_parts-loop-part : goal.invariant-pass_parts-loop-part
invariant-pass_parts-loop-part l =
    AllLowered l.search (calls_in (map (searched l.search) (take l.part-index l.parts)) (bound_of l.around)) l.before l.passed

abbrev pub invariant-pass_arms-loop-con : goal.invariant-pass_arms-loop-con
invariant-pass_arms-loop-con l =
    AllLowered l.search (arm_calls l.search.program.now l.matched (map (searched l.search) (take l.con l.arms))) l.before l.passed

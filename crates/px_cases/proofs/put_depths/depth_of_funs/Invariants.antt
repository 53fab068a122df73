use Rattle.std.proofs.Common.{◌≡◌, take, min, ◌-◌, ◌^◌, map}
use Rattle.px_terms.specs.Largest.{largest}
use Rattle.px_terms.specs.Types.{fun_depth}
use Rattle.px_cases.proofs.put_depths.depth_of_funs.Given as goal

abbrev pub invariant-loop-fun : goal.invariant-loop-fun
invariant-loop-fun l = l.deepest ≡ min (largest (map fun_depth (take l.fun-index l.funs))) (2 ^ 32 - 1)

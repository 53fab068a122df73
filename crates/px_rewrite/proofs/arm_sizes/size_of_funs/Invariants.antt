use Rattle.std.proofs.Common.{◌≡◌, take, min, ◌-◌, ◌^◌, map, sum}
use Rattle.px_terms.specs.Types.{fun_size}
use Rattle.px_rewrite.proofs.arm_sizes.size_of_funs.Given as goal

abbrev pub invariant-loop-fun : goal.invariant-loop-fun
invariant-loop-fun l = l.total ≡ min (sum (map fun_size (take l.fun-index l.funs))) (2 ^ 64 - 1)

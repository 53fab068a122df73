use Rattle.std.proofs.Common.{◌≡◌, take, min, ◌-◌, ◌^◌, map, sum}
use Rattle.px_terms.specs.Types.{fun_size, fun_instance}
use Rattle.px_terms.proofs.instance_sizes.size_of_funs_instance.Given as goal

abbrev pub invariant-loop-fun : goal.invariant-loop-fun
invariant-loop-fun l = l.total ≡ min (sum (map fun_size (map (fun_instance l.sigma.types l.sigma.funs) (take l.fun-index l.funs)))) (2 ^ 64 - 1)

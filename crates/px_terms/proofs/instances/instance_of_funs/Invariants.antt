use Rattle.std.proofs.Common.{◌≡◌, take, map}
use Rattle.px_terms.specs.Types.{fun_instance}
use Rattle.px_terms.proofs.instances.instance_of_funs.Given as goal

abbrev pub invariant-loop-fun : goal.invariant-loop-fun
invariant-loop-fun l = l.done ≡ map (fun_instance l.sigma.types l.sigma.funs) (take l.fun-index l.funs)

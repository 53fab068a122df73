use Rattle.std.proofs.Common.{◌≡◌, take}
use Rattle.px_machine.specs.Standing.{targets_of}
use Rattle.px_replicas.proofs.merge.targets.Given as goal

abbrev pub invariant-loop-fun : goal.invariant-loop-fun
invariant-loop-fun l = l.targets ≡ targets_of (take l.fun-index l.funs)

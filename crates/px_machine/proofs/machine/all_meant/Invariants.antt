use Rattle.std.proofs.Common.{◌≡◌, drop}
use Rattle.px_machine.specs.Machine.{meant_targets}
use Rattle.px_machine.proofs.TargetLemmas.{with_rest}
use Rattle.px_machine.proofs.machine.all_meant.Given as goal

abbrev pub invariant-loop-target : goal.invariant-loop-target
invariant-loop-target l = with_rest l.funs l.all (drop l.target-index l.targets) ≡ meant_targets l.funs l.targets

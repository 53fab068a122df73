use Rattle.std.proofs.Common.{◌≡◌, replicate}
use Rattle.px_replicas.proofs.versions.Versions.new.Given as goal

abbrev pub invariant-loop : goal.invariant-loop
invariant-loop l = l.replicas ≡ replicate l.counter 0

use Rattle.std.proofs.Common.{◌≢◌, ℕ, ◌<◌, get_or}
use Rattle.px_replicas.proofs.versions.is_alone.Given as goal

abbrev pub invariant-loop-other : goal.invariant-loop-other
invariant-loop-other l = (q : ℕ) → q < l.other → q ≢ l.replica → get_or l.replicas q 0 ≢ get_or l.replicas l.replica 0

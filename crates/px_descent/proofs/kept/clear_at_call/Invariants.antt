use Rattle.std.proofs.Common.{ℕ}
use Rattle.px_terms.specs.declared.program.Program.{Program}
use Rattle.px_descent.specs.Around.{bound_of}
use Rattle.px_descent.specs.Kept.{stands_in}
use Rattle.px_descent.proofs.Clearing.{Cleared}
use Rattle.px_descent.proofs.kept.clear_at_call.Given as goal

abbrev pub invariant-loop-index : goal.invariant-loop-index
invariant-loop-index l = (P : Program) (n : ℕ) → Cleared l.first (stands_in P n l.args (bound_of l.around)) l.index l.initial.kept l.kept

-- The rows of steps. This file is for proofs.
use Rattle.std.specs.Prelude.{ℕ, List, ◌++◌, map}
use Rattle.px_terms.specs.declared.row.Row.{Row}
use Rattle.px_terms.specs.declared.row.Row.TheVariants as row
use Rattle.px_terms.specs.declared.row.Target.{Target}
use Rattle.px_prover.specs.Moves.{Move}

-- the rows of moves, of this side, below a path
abbrev pub step_rows : Target → List ℕ → List Move → List Row
step_rows target path = map (λ (m : Move). row.Step target (path ++ m.path) m.kind)

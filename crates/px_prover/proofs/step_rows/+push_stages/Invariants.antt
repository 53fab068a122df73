use Rattle.std.proofs.Common.{◌≡◌, ◌++◌, take}
use Rattle.px_prover.specs.Normalising.{moves_of}
use Rattle.px_prover.specs.StepRows.{step_rows}
use Rattle.px_prover.proofs.step_rows.+push_stages.Given as goal

abbrev pub invariant-push_stages-loop-stage : goal.invariant-push_stages-loop-stage
invariant-push_stages-loop-stage l = record {
  rows : l.rows ≡ l.initial.rows ++ step_rows l.target l.initial.path (moves_of (take l.stage-index l.stages));
  path : l.path ≡ l.initial.path;
}

use Rattle.std.proofs.Common.{List, ◌++◌, ap, sym, ◌∙◌}
use Rattle.px_terms.specs.declared.row.Row.{Row}
use Rattle.px_prover.specs.declared.stages.Stage.{Stage}
use Rattle.px_prover.specs.Normalising.{moves_in, moves_of}
use Rattle.px_prover.specs.StepRows.{step_rows}
use Rattle.px_prover.proofs.StageLemmas.{rows_child}
use Rattle.px_prover.proofs.step_rows.+push_stages.Goals as goal

pub push_stage-returns-in_ok-push_stages-in-Below-clause-rows : goal.push_stage-returns-in_ok-push_stages-in-Below-clause-rows
push_stage-returns-in_ok-push_stages-in-Below-clause-rows t c =
    c.in_ok-push_stages-in-Below.ensures.rows
    ∙ (λ k. c.args.rows.now ++ step_rows c.args.target (c.in_ok-push-in-Below.ensures.ok k) (moves_of (c.as_slice-in-Below.ensures k)))
    ∙ ap (λ (l : List Row). c.args.rows.now ++ l)
    (rows_child c.args.target c.args.path.now c.in-Below.child c.in-Below.stages ∙ ap (λ (x : Stage). step_rows c.args.target c.args.path.now (moves_in x)) (sym c.in-Below.is))

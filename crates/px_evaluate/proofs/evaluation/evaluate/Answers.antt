use Rattle.std.proofs.Common.{◌∙◌}
use Rattle.px_evaluate.specs.Evaluating.{IsEvaluated}
use Rattle.px_evaluate.proofs.Found.{ok_alike, finds_exactly, finds_nothing}
use Rattle.px_evaluate.proofs.Layers.{evaluated_at}
use Rattle.px_evaluate.proofs.evaluation.evaluate.Goals as goal

pub returns-clause-finds : goal.returns-clause-finds
returns-clause-finds c = ok_alike _ _ c.value_of.result (λ r finds.
    finds_exactly (IsEvaluated c.args.fuel c.args.program.now c.args.values.now c.args.term.now) r
    (evaluated_at c.args.fuel c.args.program.now _ _ c.args.values.now _ c.args.term.now r (c.as_slice.ensures ∙ c.new-types.ensures) (c.as_slice-2.ensures ∙ c.new-funs.ensures) (c.as_slice-3.ensures ∙ c.new-inner.ensures) finds))
    c.value_of.ensures

pub returns-clause-nothing : goal.returns-clause-nothing
returns-clause-nothing c = ok_alike _ _ c.value_of.result (λ r finds.
    finds_nothing (IsEvaluated c.args.fuel c.args.program.now c.args.values.now c.args.term.now) r
    (evaluated_at c.args.fuel c.args.program.now _ _ c.args.values.now _ c.args.term.now r (c.as_slice.ensures ∙ c.new-types.ensures) (c.as_slice-2.ensures ∙ c.new-funs.ensures) (c.as_slice-3.ensures ∙ c.new-inner.ensures) finds))
    c.value_of.ensures

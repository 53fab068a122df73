use Rattle.std.proofs.Common.{◌∙◌}
use Rattle.px_terms.specs.Noting.{equation_instance}
use Rattle.px_terms.specs.Sequents.{IsWithinLimits}
use Rattle.px_terms.specs.Rows.{to_show}
use Rattle.px_replay.proofs.InstanceLemmas.{made_more, due_at, all_pushed}
use Rattle.px_replay.proofs.Results.{still_ends}
use Rattle.px_replay.proofs.instances.push_shown.Goals as goal

pub loop-premise-preserved : goal.loop-premise-preserved
loop-premise-preserved c = record {
  made = made_more (to_show c.args.top.now.sequent) (equation_instance c.args.sigma.now) c.args.premises.now c.loop-premise.premise-index c.premise-item.result c.args.children.now c.loop-premise.children c.push.new.self c.in_ok-shown.field-0 c.loop-premise-test.true c.premise-item.is c.loop-premise.invariant.made c.in_ok-shown.ensures.made.0 c.in_ok-push.ensures.ok;
  small = λ all. all_pushed IsWithinLimits c.loop-premise.children c.push.new.self c.in_ok-shown.field-0 c.in_ok-push.ensures.ok (c.loop-premise.invariant.small all) c.in_ok-shown.ensures.made.1;
}

pub returns-in_err-shown-clause-only : goal.returns-in_err-shown-clause-only
returns-in_err-shown-clause-only c = λ all.
    let due = due_at (to_show c.args.top.now.sequent) (equation_instance c.args.sigma.now) IsWithinLimits c.args.premises.now c.loop-premise.premise-index c.premise-item.result c.loop-premise-test.true c.premise-item.is all in
    still_ends c.from_residual.result _ _ c.from_residual.ensures (λ e same. same ∙ c.in_err-shown.ensures.only due)

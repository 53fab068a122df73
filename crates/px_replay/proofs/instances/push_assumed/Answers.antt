use Rattle.std.proofs.Common.{◌∷◌, [], ◌∙◌, ap, sym, subst}
use Rattle.px_terms.specs.declared.clause.Equation.{Equation}
use Rattle.px_terms.specs.Noting.{equation_instance}
use Rattle.px_terms.specs.Sequents.{IsWithinLimits}
use Rattle.px_terms.specs.Rows.{with_facts}
use Rattle.px_replay.specs.declared.open_sequents.Open.{Open}
use Rattle.px_replay.proofs.InstanceLemmas.{made_more, due_at, all_pushed}
use Rattle.px_replay.proofs.Results.{still_ends}
use Rattle.px_replay.proofs.instances.push_assumed.Goals as goal

pub loop-alternative-preserved : goal.loop-alternative-preserved
loop-alternative-preserved c = record {
  made = made_more (λ (e : Equation). with_facts c.args.top.now.sequent (e ∷ [])) (equation_instance c.args.sigma.now) c.args.alternatives.now c.loop-alternative.alternative-index c.alternative-item.result c.args.children.now c.loop-alternative.children c.push.new.self c.in_ok-assumed.field-0 c.loop-alternative-test.true c.alternative-item.is c.loop-alternative.invariant.made (c.in_ok-assumed.ensures.made.0 ∙ ap (λ (o : Open). with_facts o.sequent (equation_instance c.args.sigma.now c.alternative-item.result ∷ [])) c.in_ok-copy.ensures) c.in_ok-push.ensures.ok;
  small = λ all. all_pushed IsWithinLimits c.loop-alternative.children c.push.new.self c.in_ok-assumed.field-0 c.in_ok-push.ensures.ok (c.loop-alternative.invariant.small all) c.in_ok-assumed.ensures.made.1;
}

pub returns-in_err-assumed-clause-only : goal.returns-in_err-assumed-clause-only
returns-in_err-assumed-clause-only c = λ all.
    let due = due_at (λ (e : Equation). with_facts c.args.top.now.sequent (e ∷ [])) (equation_instance c.args.sigma.now) IsWithinLimits c.args.alternatives.now c.loop-alternative.alternative-index c.alternative-item.result c.loop-alternative-test.true c.alternative-item.is all in
    let copied = subst (λ (o : Open). IsWithinLimits (with_facts o.sequent (equation_instance c.args.sigma.now c.alternative-item.result ∷ []))) (sym c.in_ok-copy.ensures) due in
    still_ends c.from_residual-in_err-assumed.result _ _ c.from_residual-in_err-assumed.ensures (λ e same. same ∙ c.in_err-assumed.ensures.only copied)

use Rattle.std.proofs.Common.{◌∙◌, subst, sym, All}
use Rattle.std.proofs.lemmas.List.Elements.{All-nil}
use Rattle.px_terms.specs.Sequents.{IsWithinLimits}
use Rattle.px_replay.proofs.InstanceLemmas.{all_pushed, premises_small, others_small, last_small, noted_none, noted_some}
use Rattle.px_replay.proofs.Results.{still_ends}
use Rattle.px_replay.proofs.instances.noted_children.Goals as goal

pub returns-in_err-push_shown-clause-only : goal.returns-in_err-push_shown-clause-only
returns-in_err-push_shown-clause-only c = λ all.
    still_ends c.from_residual.result _ _ c.from_residual.ensures (λ e same. same ∙ c.in_err-push_shown.ensures.only (premises_small c.args.top.sequent c.args.clause.now c.args.sigma.now c.as_slice.result.now c.as_slice.ensures all))

pub returns-in_default-clause-made : goal.returns-in_default-clause-made
returns-in_default-clause-made c = (
  noted_none c.args.top.sequent c.args.clause.now c.args.sigma.now c.as_slice.result.now c.as_slice-2.result.now c.new-children.result c.push_shown.new.children c.as_slice.ensures c.as_slice-2.ensures c.in_default.len_below c.new-children.ensures c.in_ok-push_shown.ensures.made,
  c.in_ok-push_shown.ensures.small (subst (All IsWithinLimits) (sym c.new-children.ensures) (All-nil IsWithinLimits)),
)

pub returns-in_err-push_assumed-clause-only : goal.returns-in_err-push_assumed-clause-only
returns-in_err-push_assumed-clause-only c = λ all.
    still_ends c.from_residual-in_err-push_assumed.result _ _ c.from_residual-in_err-push_assumed.ensures (λ e same. same ∙ c.in_err-push_assumed.ensures.only (others_small c.args.top.sequent c.args.clause.now c.args.sigma.now c.as_slice-2.result.now c.last-item.result c.as_slice-2.ensures c.in-len1-up.len_at_least c.last-item.is all))

pub returns-in_err-assumed-clause-only : goal.returns-in_err-assumed-clause-only
returns-in_err-assumed-clause-only c = λ all.
    still_ends c.from_residual-in_err-assumed.result _ _ c.from_residual-in_err-assumed.ensures (λ e same. same ∙ c.in_err-assumed.ensures.only (last_small c.args.top.sequent c.args.clause.now c.args.sigma.now c.as_slice-2.result.now c.last-item.result c.as_slice-2.ensures c.in-len1-up.len_at_least c.last-item.is all))

pub returns-clause-made : goal.returns-clause-made
returns-clause-made c =
    let first : All IsWithinLimits c.push_shown.new.children = c.in_ok-push_shown.ensures.small (subst (All IsWithinLimits) (sym c.new-children.ensures) (All-nil IsWithinLimits)) in (
      noted_some c.args.top.sequent c.args.clause.now c.args.sigma.now c.as_slice.result.now c.as_slice-2.result.now c.last-item.result c.new-children.result c.push_shown.new.children c.push_assumed.new.children c.push.new.self c.in_ok-assumed.field-0 c.as_slice.ensures c.as_slice-2.ensures c.in-len1-up.len_at_least c.last-item.is c.new-children.ensures c.in_ok-push_shown.ensures.made c.in_ok-push_assumed.ensures.made c.in_ok-assumed.ensures.made.0 c.in_ok-push.ensures.ok,
      all_pushed IsWithinLimits c.push_assumed.new.children c.push.new.self c.in_ok-assumed.field-0 c.in_ok-push.ensures.ok (c.in_ok-push_assumed.ensures.small first) c.in_ok-assumed.ensures.made.1,
    )

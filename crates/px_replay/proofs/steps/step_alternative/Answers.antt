use Rattle.std.proofs.Common.{◌≡◌, true, false, inr, sym, ◌∙◌}
use Rattle.px_terms.specs.declared.row.Row.TheVariants as row
use Rattle.px_terms.specs.declared.row.Target.TheVariants as target
use Rattle.px_replay.specs.Replaying.{StepsSide}
use Rattle.px_replay.proofs.Openings.{StepsAlternative, needs}
use Rattle.px_replay.proofs.Results.{still_ends}
use Rattle.px_replay.proofs.StepLemmas.{step_lists, step_within, alternative_opens, alternative_within, alternative_due}
use Rattle.px_replay.proofs.steps.step_alternative.Goals as goal

pub set_side-requires : goal.set_side-requires
set_side-requires c =
    let steps : StepsSide c.args.checked.now c.args.top.sequent.facts c.args.top.sequent.alternatives c.args.place.0 c.args.place.1 c.args.path.now c.args.kind c.in_ok-whole.whole = step_lists c.args.checked.now _ _ c.args.top.sequent.facts c.args.top.sequent.alternatives c.args.place.0 c.args.place.1 c.args.path.now c.args.kind c.in_ok-whole.whole c.as_slice-facts.ensures c.as_slice-alternatives.ensures c.in_ok-whole.ensures.steps in
    step_within c.args.checked.now c.args.top.sequent.facts c.args.top.sequent.alternatives c.args.place.0 c.args.place.1 c.args.path.now c.args.kind c.in_ok-whole.whole steps

pub returns-clause-opens : goal.returns-clause-opens
returns-clause-opens c = λ n.
    let steps : StepsSide c.args.checked.now c.args.top.sequent.facts c.args.top.sequent.alternatives c.args.place.0 c.args.place.1 c.args.path.now c.args.kind c.in_ok-whole.whole = step_lists c.args.checked.now _ _ c.args.top.sequent.facts c.args.top.sequent.alternatives c.args.place.0 c.args.place.1 c.args.path.now c.args.kind c.in_ok-whole.whole c.as_slice-facts.ensures c.as_slice-alternatives.ensures c.in_ok-whole.ensures.steps in
    let within = alternative_within c.args.checked.now c.args.top.sequent c.args.place.0 c.args.place.1 c.args.path.now c.args.kind c.in_ok-whole.whole c.set_side.new.self c.args.top.is_within steps c.set_side.ensures c.requires.within (c.is_child_within.ensures.0 c.if-not-is_child_within.false) in
    alternative_opens c.args.checked.now c.args.top.sequent c.args.place.0 c.args.place.1 c.args.path.now c.args.kind c.in_ok-whole.whole c.set_side.new.self n steps c.set_side.ensures within

pub returns-clause-small : goal.returns-clause-small
returns-clause-small c =
    let steps : StepsSide c.args.checked.now c.args.top.sequent.facts c.args.top.sequent.alternatives c.args.place.0 c.args.place.1 c.args.path.now c.args.kind c.in_ok-whole.whole = step_lists c.args.checked.now _ _ c.args.top.sequent.facts c.args.top.sequent.alternatives c.args.place.0 c.args.place.1 c.args.path.now c.args.kind c.in_ok-whole.whole c.as_slice-facts.ensures c.as_slice-alternatives.ensures c.in_ok-whole.ensures.steps in
    alternative_within c.args.checked.now c.args.top.sequent c.args.place.0 c.args.place.1 c.args.path.now c.args.kind c.in_ok-whole.whole c.set_side.new.self c.args.top.is_within steps c.set_side.ensures c.requires.within (c.is_child_within.ensures.0 c.if-not-is_child_within.false)

pub returns-then-not-is_child_within-clause-only : goal.returns-then-not-is_child_within-clause-only
returns-then-not-is_child_within-clause-only c = λ n children opens.
    let steps : StepsSide c.args.checked.now c.args.top.sequent.facts c.args.top.sequent.alternatives c.args.place.0 c.args.place.1 c.args.path.now c.args.kind c.in_ok-whole.whole = step_lists c.args.checked.now _ _ c.args.top.sequent.facts c.args.top.sequent.alternatives c.args.place.0 c.args.place.1 c.args.path.now c.args.kind c.in_ok-whole.whole c.as_slice-facts.ensures c.as_slice-alternatives.ensures c.in_ok-whole.ensures.steps in
    let to : StepsAlternative c.args.checked.now c.args.top.sequent c.args.place.0 c.args.place.1 c.args.path.now c.args.kind = needs c.args.checked.now n c.args.top.sequent (row.Step (target.Alternative c.args.place.0 c.args.place.1) c.args.path.now c.args.kind) children opens in
    let due = step_lists c.args.checked.now c.args.top.sequent.facts c.args.top.sequent.alternatives _ _ c.args.place.0 c.args.place.1 c.args.path.now c.args.kind to.t (sym c.as_slice-facts.ensures) (sym c.as_slice-alternatives.ensures) to.steps in
    let one = c.in_ok-whole.ensures.only to.t due in
    let within = alternative_due c.args.checked.now c.args.top.sequent c.args.place.0 c.args.place.1 c.args.path.now c.args.kind c.in_ok-whole.whole c.set_side.new.self steps c.set_side.ensures to one in
    let told : false ≡ true = c.if-not-is_child_within.ensures.1 (inr within) in
    cc

pub returns-in_err-whole-clause-only : goal.returns-in_err-whole-clause-only
returns-in_err-whole-clause-only c = λ n children opens.
    let to : StepsAlternative c.args.checked.now c.args.top.sequent c.args.place.0 c.args.place.1 c.args.path.now c.args.kind = needs c.args.checked.now n c.args.top.sequent (row.Step (target.Alternative c.args.place.0 c.args.place.1) c.args.path.now c.args.kind) children opens in
    let due = step_lists c.args.checked.now c.args.top.sequent.facts c.args.top.sequent.alternatives _ _ c.args.place.0 c.args.place.1 c.args.path.now c.args.kind to.t (sym c.as_slice-facts.ensures) (sym c.as_slice-alternatives.ensures) to.steps in
    still_ends c.from_residual.result _ _ c.from_residual.ensures (λ e same. same ∙ c.in_err-whole.ensures.only to.t due)

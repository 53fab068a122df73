use Rattle.std.proofs.Common.{◌≡◌, true, false, sym, subst, ◌∙◌, Some}
use Rattle.px_terms.specs.Sequents.{IsSmall}
use Rattle.px_rewrite.proofs.Results.{still_ends}
use Rattle.px_rewrite.proofs.StepLemmas.{steps_at, step_made}
use Rattle.px_rewrite.proofs.steps.stepped.Goals as goal

pub returns-in_err-becomes-clause-only : goal.returns-in_err-becomes-clause-only
returns-in_err-becomes-clause-only c = λ t one.
    let here = steps_at c.args.program.now c.args.facts.now c.args.term.now c.args.path.now c.args.kind c.in-Some.part.now c.room_in-room.result t (sym c.in-Some.ensures) (c.room_in-room.ensures (sym c.in-Some.ensures)) one in
    let why = c.in_err-becomes.ensures.only here.becomes here.turns here.nodes in
    still_ends c.from_residual.result _ _ c.from_residual.ensures (λ e same. same ∙ why)

pub returns-in_default-2-clause-only : goal.returns-in_default-2-clause-only
returns-in_default-2-clause-only c = λ t one.
    let whole = step_made c.args.program.now c.args.facts.now c.args.term.now c.args.path.now c.args.kind c.in-Some.part.now c.in_ok-becomes.becomes t (sym c.in-Some.ensures) c.in_ok-becomes.ensures.turns one in
    absurd (c.in_default-2.not-Some t (c.in_ok-whole.ensures ∙ whole))

pub returns-then-not-is_small-clause-only : goal.returns-then-not-is_small-clause-only
returns-then-not-is_small-clause-only c = λ t one.
    let whole = step_made c.args.program.now c.args.facts.now c.args.term.now c.args.path.now c.args.kind c.in-Some.part.now c.in_ok-becomes.becomes t (sym c.in-Some.ensures) c.in_ok-becomes.ensures.turns one in
    let found : Some c.in-Some-2.whole ≡ Some t = sym c.in-Some-2.is ∙ c.in_ok-whole.ensures ∙ whole in
    let same : t ≡ c.in-Some-2.whole = cc in
    let told : false ≡ true = c.if-not-is_small.ensures.1 (subst IsSmall same one.small) in
    cc

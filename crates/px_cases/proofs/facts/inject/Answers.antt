use Rattle.std.proofs.Common.{◌≡◌, List, Some, slice_get, sym, ap, ◌∙◌}
use Rattle.px_terms.specs.declared.clause.Equation.{Equation}
use Rattle.px_cases.proofs.FactLemmas.{inject_ok, inject_only, inject_other_head, inject_oversize}
use Rattle.px_cases.proofs.facts.inject.Goals as goal

pub returns-clause-ok : goal.returns-clause-ok
returns-clause-ok c =
    let found : slice_get c.args.sequent.facts c.args.fact ≡ Some c.in_ok-sides.sides = ap (λ (es : List Equation). slice_get es c.args.fact) (sym c.as_slice.ensures) ∙ sym c.in-Some.ensures ∙ ap (λ (e : Equation). Some e) (sym c.in_ok-sides.ensures) in
    inject_ok c.args.sequent c.args.fact c.in_ok-sides.sides found c.with_fields.result c.with_fields.ensures.ok

pub returns-clause-only : goal.returns-clause-only
returns-clause-only c =
    let found : slice_get c.args.sequent.facts c.args.fact ≡ Some c.in_ok-sides.sides = ap (λ (es : List Equation). slice_get es c.args.fact) (sym c.as_slice.ensures) ∙ sym c.in-Some.ensures ∙ ap (λ (e : Equation). Some e) (sym c.in_ok-sides.ensures) in
    inject_only c.args.sequent c.args.fact c.in_ok-sides.sides found c.with_fields.result c.with_fields.ensures.ok c.with_fields.ensures.end

pub returns-clause-not_same_head : goal.returns-clause-not_same_head
returns-clause-not_same_head c =
    let found : slice_get c.args.sequent.facts c.args.fact ≡ Some c.in_ok-sides.sides = ap (λ (es : List Equation). slice_get es c.args.fact) (sym c.as_slice.ensures) ∙ sym c.in-Some.ensures ∙ ap (λ (e : Equation). Some e) (sym c.in_ok-sides.ensures) in
    inject_other_head c.args.sequent c.args.fact c.in_ok-sides.sides found c.with_fields.result c.with_fields.ensures.end

pub returns-clause-oversize : goal.returns-clause-oversize
returns-clause-oversize c =
    let found : slice_get c.args.sequent.facts c.args.fact ≡ Some c.in_ok-sides.sides = ap (λ (es : List Equation). slice_get es c.args.fact) (sym c.as_slice.ensures) ∙ sym c.in-Some.ensures ∙ ap (λ (e : Equation). Some e) (sym c.in_ok-sides.ensures) in
    inject_oversize c.args.sequent c.args.fact c.in_ok-sides.sides found c.with_fields.result c.with_fields.ensures.end

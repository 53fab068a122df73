use Rattle.std.proofs.Common.{refl, subst}
use Rattle.px_terms.specs.Guards.{IsConSubterm, itself}
use Rattle.px_terms.proofs.FieldLemmas.{both_false, found_at, none_next, in_constructor}
use Rattle.px_terms.proofs.subterms.+holds.Goals as goal

pub holds-returns-then-same_term : goal.holds-returns-then-same_term
holds-returns-then-same_term t c = (λ _. subst (IsConSubterm c.args.part.now) (c.same_term.ensures.0 c.if-same_term.true) itself, λ _. refl)

pub holds-returns-in-Con : goal.holds-returns-in-Con
holds-returns-in-Con t c = in_constructor c.args.part.now c.args.whole.now _ _ _ _ c.as_slice.result.now c.is_in_field.result c.in-Con.is c.as_slice.ensures (λ same. both_false _ c.if-same_term.false (c.same_term.ensures.1 same)) c.is_in_field.ensures

pub is_in_field-returns-then-holds : goal.is_in_field-returns-then-holds
is_in_field-returns-then-holds t c = (λ _. found_at c.args.part.now c.args.fields.now c.loop-field.field-index c.field-item.result c.loop-field-test.true c.field-item.is (c.holds.ensures.0 c.if-holds.true), λ _. refl)

pub is_in_field-loop-field-preserved : goal.is_in_field-loop-field-preserved
is_in_field-loop-field-preserved t c = none_next c.args.part.now c.args.fields.now c.loop-field.field-index c.field-item.result c.loop-field-test.true c.field-item.is c.loop-field.invariant (λ stands. both_false _ c.if-holds.false (c.holds.ensures.1 stands))

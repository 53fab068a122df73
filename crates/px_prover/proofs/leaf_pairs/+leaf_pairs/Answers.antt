use Rattle.std.proofs.Common.{◌<◌, ◌^◌, arith, ◌-◌, ◌+◌, ◌*◌, ℕ, List, length, subst, ap, ◌∙◌}
use Rattle.px_terms.specs.Terms.{term_size, terms_size}
use Rattle.px_prover.specs.Leaves.{TellsLeafPairs}
use Rattle.px_prover.proofs.LeafLemmas.{none_of_equal, of_fields_answer, none_for_itself, fields_uneven, too_many, so_far_next, so_far_end, not_both, itself_alone}
use Rattle.px_prover.proofs.SizeLemmas.{number_fits, item_fits, item_falls, fields_fit, fields_fall}
use Rattle.px_prover.proofs.leaf_pairs.+leaf_pairs.Goals as goal

pub leaf_pairs-returns-then-same_term : goal.leaf_pairs-returns-then-same_term
leaf_pairs-returns-then-same_term t c = none_of_equal c.args.path.now c.args.left.now c.args.right.now c.args.most c.new.result (c.same_term.ensures.0 c.if-same_term.true) c.new.ensures

pub leaf_pairs-returns-in-Some : goal.leaf_pairs-returns-in-Some
leaf_pairs-returns-in-Some t c = of_fields_answer c.args.path.now c.args.left.now c.args.right.now c.in-Some.heads.fields.now c.in-Some.heads.parts.now c.as_slice.result.now c.as_slice-in-Some.result.now c.args.most c.leaf_pairs_of_fields.result
    (λ same. not_both c.if-same_term.false (c.same_term.ensures.1 same)) c.in-Some.ensures c.as_slice.ensures c.as_slice-in-Some.ensures c.leaf_pairs_of_fields.ensures

pub leaf_pairs-returns-then-most-eq0 : goal.leaf_pairs-returns-then-most-eq0
leaf_pairs-returns-then-most-eq0 t c = none_for_itself c.args.path.now c.args.left.now c.args.right.now c.args.most (λ same. not_both c.if-same_term.false (c.same_term.ensures.1 same)) c.in_default.ensures c.if-most-eq0.true

pub leaf_pairs_of_fields-returns-then-fields-parts : goal.leaf_pairs_of_fields-returns-then-fields-parts
leaf_pairs_of_fields-returns-then-fields-parts t c = fields_uneven c.args.path.now c.args.fields.now c.args.parts.now c.args.most c.if-fields-parts.true

pub leaf_pairs_of_fields-returns-in_default : goal.leaf_pairs_of_fields-returns-in_default
leaf_pairs_of_fields-returns-in_default t c = too_many c.args.path.now c.args.fields.now c.args.parts.now c.args.most c.loop-number.number c.index-fields-number.result c.index-parts-number.result c.loop-number-test.true c.if-fields-parts.false c.index-fields-number.is c.index-parts-number.is
    c.as_slice.result.now c.loop-number.found (c.as_slice.ensures ∙ c.in_ok-place.ensures) c.loop-number.invariant (subst (TellsLeafPairs c.as_slice.result.now c.index-fields-number.result c.index-parts-number.result (c.args.most - length c.loop-number.found)) c.in_default.is (rw c.len.ensures at c.in_ok-more.ensures))

pub leaf_pairs_of_fields-loop-number-preserved : goal.leaf_pairs_of_fields-loop-number-preserved
leaf_pairs_of_fields-loop-number-preserved t c = so_far_next c.args.path.now c.args.fields.now c.args.parts.now c.args.most c.loop-number.number c.index-fields-number.result c.index-parts-number.result c.loop-number-test.true c.if-fields-parts.false c.index-fields-number.is c.index-parts-number.is
    c.as_slice.result.now c.loop-number.found c.in-Some.more c.append.new.self (c.as_slice.ensures ∙ c.in_ok-place.ensures) c.loop-number.invariant (subst (TellsLeafPairs c.as_slice.result.now c.index-fields-number.result c.index-parts-number.result (c.args.most - length c.loop-number.found)) c.in-Some.is (rw c.len.ensures at c.in_ok-more.ensures)) c.in_ok-append.ensures

pub leaf_pairs_of_fields-returns : goal.leaf_pairs_of_fields-returns
leaf_pairs_of_fields-returns t c = so_far_end c.args.path.now c.args.fields.now c.args.parts.now c.args.most c.loop-number.number c.loop-number.found c.loop-number-test.false c.if-fields-parts.false c.loop-number.invariant

pub leaf_pairs-returns : goal.leaf_pairs-returns
leaf_pairs-returns t c = itself_alone c.args.path.now c.args.left.now c.args.right.now c.args.most c.new-alone.result c.push.new.self (record { path = c.in_ok-from_slice.field-0; left = c.args.left; right = c.args.right })
    (λ same. not_both c.if-same_term.false (c.same_term.ensures.1 same)) c.in_default.ensures c.if-most-eq0.false c.new-alone.ensures c.in_ok-push.ensures.ok
    (ap (λ (p : List ℕ). record { path = p; left = c.args.left.now; right = c.args.right.now }) c.in_ok-from_slice.ensures)

pub leaf_pairs_of_fields-overflow_cast-number : goal.leaf_pairs_of_fields-overflow_cast-number
leaf_pairs_of_fields-overflow_cast-number t c =
    let few : c.loop-number.number < 2 ^ 32 = number_fits c.args.fields.now c.loop-number.number c.requires.fit c.loop-number-test.true in
    omega arith

pub leaf_pairs-leaf_pairs_of_fields-requires : goal.leaf_pairs-leaf_pairs_of_fields-requires
leaf_pairs-leaf_pairs_of_fields-requires t c = (
  subst (λ (most : ℕ). 2 * terms_size c.as_slice.result.now + 1 < most) c.decreases (fields_fall c.args.left.now c.args.right.now c.in-Some.heads.fields.now c.in-Some.heads.parts.now c.as_slice.result.now c.in-Some.ensures c.as_slice.ensures),
  fields_fit c.args.left.now c.args.right.now c.in-Some.heads.fields.now c.in-Some.heads.parts.now c.as_slice.result.now c.in-Some.ensures c.as_slice.ensures c.requires.fits,
)

pub leaf_pairs_of_fields-leaf_pairs-requires : goal.leaf_pairs_of_fields-leaf_pairs-requires
leaf_pairs_of_fields-leaf_pairs-requires t c = (
  subst (λ (most : ℕ). 2 * term_size c.index-fields-number.result < most) c.decreases (item_falls c.args.fields.now c.loop-number.number c.index-fields-number.result c.loop-number-test.true c.index-fields-number.is),
  item_fits c.args.fields.now c.loop-number.number c.index-fields-number.result c.requires.fit c.loop-number-test.true c.index-fields-number.is,
)

use Rattle.std.proofs.Common.{◌++◌, ◌∷◌, [], ℕ, List, subst, sym, ◌∙◌}
use Rattle.px_prover.proofs.ChoiceLemmas.{AreLists, lists_start, lists_next, lists_end}
use Rattle.px_prover.proofs.choices.number_lists.Goals as goal

pub loop-place-init : goal.loop-place-init
loop-place-init c = lists_start c.args.count c.push.new.self (c.in_ok-push.ensures.ok ∙ (λ k. c.new-lists.ensures k ++ c.new.ensures k ∷ []))

pub loop-place-preserved : goal.loop-place-preserved
loop-place-preserved c = lists_next c.args.count c.loop-place._place c.as_slice.result.now c.in_ok-lists.lists (subst (λ (ls : List (List ℕ)). AreLists c.args.count c.loop-place._place ls) (sym c.as_slice.ensures) c.loop-place.invariant) c.in_ok-lists.ensures

pub returns : goal.returns
returns c = lists_end c.args.count c.args.places c.loop-place._place c.loop-place.lists c.loop-place.auto._place-end c.loop-place-test.false c.loop-place.invariant

use Rattle.std.proofs.Common.{◌∙◌}
use Rattle.px_prover.proofs.NoneSoFar.{not_both}
use Rattle.px_prover.proofs.SpotLemmas.{paths_start, paths_next, paths_pass, paths_end}
use Rattle.px_prover.proofs.spots.paths_of.Goals as goal

pub loop-place-init : goal.loop-place-init
loop-place-init c = paths_start c.args.part.now c.new-paths.result c.new-paths.ensures

pub loop-place-preserved : goal.loop-place-preserved
loop-place-preserved c = paths_next c.args.places.now c.args.part.now c.loop-place.place-index c.place-item.result c.loop-place.paths c.push.new.self c.in_ok-path.path c.loop-place-test.true c.place-item.is
    (c.same_term.ensures.0 c.if-not-same_term.false) (c.in_ok-path.ensures ∙ c.as_slice.ensures) c.loop-place.invariant c.in_ok-push.ensures.ok

pub loop-place-preserved-then-not-same_term : goal.loop-place-preserved-then-not-same_term
loop-place-preserved-then-not-same_term c = paths_pass c.args.places.now c.args.part.now c.loop-place.place-index c.place-item.result c.loop-place.paths c.loop-place-test.true c.place-item.is
    (λ same. not_both c.if-not-same_term.true (c.same_term.ensures.1 same)) c.loop-place.invariant

pub returns : goal.returns
returns c = paths_end c.args.places.now c.args.part.now c.loop-place.place-index c.loop-place.paths c.loop-place-test.false c.loop-place.invariant

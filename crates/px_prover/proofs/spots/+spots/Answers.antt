use Rattle.std.proofs.Common.{◌<◌, ◌≤◌, ◌^◌, ℕ, List, ap, subst, sym, ◌∙◌, arith}
use Rattle.px_terms.specs.Terms.{term_size}
use Rattle.px_prover.proofs.SpotLemmas.{child_stands, places_start, places_next, places_end}
use Rattle.px_prover.proofs.SizeLemmas.{child_falls, child_number_fits}
use Rattle.px_prover.proofs.spots.+spots.Goals as goal

pub loop-number-init : goal.loop-number-init
loop-number-init t c = places_start c.args.path.now c.args.t.now c.new-found.result c.push.new.self (record { path = c.in_ok-from_slice.field-0; part = c.args.t }) c.new-found.ensures c.in_ok-push.ensures.ok
    (ap (λ (p : List ℕ). record { path = p; part = c.args.t.now }) c.in_ok-from_slice.ensures)

pub overflow_cast-number : goal.overflow_cast-number
overflow_cast-number t c =
    let few : c.loop-number.number < 2 ^ 32 = child_number_fits c.args.t.now c.loop-number.number (subst (λ (n : ℕ). c.loop-number.number < n) c.child_count-number-end.ensures c.loop-number-test.true) c.requires.fits in
    omega (arith, few)

pub overflow_cast-number-in-loop-number : goal.overflow_cast-number-in-loop-number
overflow_cast-number-in-loop-number t c =
    let few : c.loop-number.number < 2 ^ 32 = child_number_fits c.args.t.now c.loop-number.number (subst (λ (n : ℕ). c.loop-number.number < n) c.child_count-number-end.ensures c.loop-number-test.true) c.requires.fits in
    omega (arith, few)

pub unreachable-requires : goal.unreachable-requires
unreachable-requires t c = child_stands c.args.t.now c.loop-number.number c.child_count-number-end.result c.child_count-number-end.ensures c.loop-number-test.true c.in_default.ensures

pub spots-requires : goal.spots-requires
spots-requires t c =
    let fewer : term_size c.in-Some.part.now < term_size c.args.t.now = child_falls c.args.t.now c.loop-number.number c.in-Some.part.now (sym c.in-Some.ensures) in
    (subst (λ (most : ℕ). term_size c.in-Some.part.now < most) c.decreases fewer, omega (arith, fewer, c.requires.fits))

pub loop-number-preserved : goal.loop-number-preserved
loop-number-preserved t c = places_next c.args.path.now c.args.t.now c.loop-number.number c.in-Some.part.now (sym c.in-Some.ensures) c.as_slice.result.now (c.as_slice.ensures ∙ c.in_ok-place.ensures)
    c.loop-number.found c.in_ok-more.more c.append.new.self c.loop-number.invariant c.in_ok-more.ensures c.in_ok-append.ensures

pub returns : goal.returns
returns t c = places_end c.args.path.now c.args.t.now c.loop-number.number c.loop-number.found (subst (λ (n : ℕ). n ≤ c.loop-number.number) c.child_count-number-end.ensures c.loop-number-test.false) c.loop-number.invariant

use Rattle.std.proofs.Common.{◌<◌, ◌≤◌, ℕ, subst, sym, arith}
use Rattle.px_terms.specs.Terms.{term_size}
use Rattle.px_prover.proofs.StandLemmas.{part_stands, part_falls, parts_start, parts_next, parts_end}
use Rattle.px_prover.proofs.parts.+parts_in.Goals as goal

pub loop-number-init : goal.loop-number-init
loop-number-init t c = parts_start c.args.t.now c.new-parts.result c.push.new.self c.in_ok-copy.field-0 c.new-parts.ensures c.in_ok-push.ensures.ok c.in_ok-copy.ensures

pub unreachable-requires : goal.unreachable-requires
unreachable-requires t c = part_stands c.args.t.now c.loop-number.number c.part_count-number-end.result c.part_count-number-end.ensures c.loop-number-test.true c.in_default.ensures

pub parts_in-requires : goal.parts_in-requires
parts_in-requires t c =
    let fewer : term_size c.in-Some.part.now < term_size c.args.t.now = part_falls c.args.t.now c.loop-number.number c.in-Some.part.now (sym c.in-Some.ensures) in
    (subst (λ (most : ℕ). term_size c.in-Some.part.now < most) c.decreases fewer, omega (arith, fewer, c.requires.fits))

pub loop-number-preserved : goal.loop-number-preserved
loop-number-preserved t c = parts_next c.args.t.now c.loop-number.number c.in-Some.part.now (sym c.in-Some.ensures) c.loop-number.parts c.in_ok-more.more c.append.new.self c.loop-number.invariant c.in_ok-more.ensures c.in_ok-append.ensures

pub returns : goal.returns
returns t c = parts_end c.args.t.now c.loop-number.number c.loop-number.parts (subst (λ (n : ℕ). n ≤ c.loop-number.number) c.part_count-number-end.ensures c.loop-number-test.false) c.loop-number.invariant

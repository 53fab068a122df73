use Rattle.std.proofs.Common.{◌≡◌, ◌+◌, ◌-◌, ◌<◌, ◌∷◌, ℕ, List, map, ap, subst, ◌∙◌, arith}
use Rattle.px_prover.proofs.RisingLemmas.{AreRising, rising_next, rising_end}
use Rattle.px_prover.proofs.frames.rising_lists.Goals as goal

pub loop-place-preserved : goal.loop-place-preserved
loop-place-preserved c =
    let n : ℕ = c.args.count - 1 - c.loop-place.place in
    let within : c.loop-place.place < c.args.count = c.loop-place-test.true in
    let below : n < c.args.count = omega (arith, within) in
    let here : n ≡ c.args.count - (c.loop-place.place + 1) = omega (arith, within) in
    let before : c.args.count - c.loop-place.place ≡ n + 1 = omega (arith, within) in
    subst (λ (m : ℕ). AreRising m c.args.count c.append.new.self) here
    (rising_next n c.args.count below c.loop-place.lists c.in_ok-longer.longer c.append.new.self (subst (λ (m : ℕ). AreRising m c.args.count c.loop-place.lists) before c.loop-place.invariant)
    (c.in_ok-longer.ensures ∙ ap (λ (ls : List (List ℕ)). map (λ (list : List ℕ). n ∷ list) ls) c.as_slice.ensures) c.in_ok-append.ensures)

pub returns : goal.returns
returns c =
    let past : c.args.count - c.loop-place.place ≡ 0 = omega (arith, c.loop-place-test.false) in
    rising_end c.args.count c.loop-place.lists (subst (λ (m : ℕ). AreRising m c.args.count c.loop-place.lists) past c.loop-place.invariant)

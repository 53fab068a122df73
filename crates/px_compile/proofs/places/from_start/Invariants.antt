use Rattle.std.proofs.Common.{◌≡◌, ℕ, ◌-◌, map, take}
use Rattle.px_compile.proofs.places.from_start.Given as goal

abbrev pub invariant-loop-place : goal.invariant-loop-place
invariant-loop-place l = l.counted ≡ map (λ (place : ℕ). l.total - place) (take l.place-index l.places)

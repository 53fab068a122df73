use Rattle.std.proofs.Common.{◌≡◌, ◌∷◌, List, ℕ, take, map}
use Rattle.px_prover.proofs.frames.each_behind.Given as goal

abbrev pub invariant-loop-list : goal.invariant-loop-list
invariant-loop-list l = l.longer ≡ map (λ (list : List ℕ). l.number ∷ list) (take l.list-index l.lists)

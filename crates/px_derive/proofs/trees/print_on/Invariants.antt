use Rattle.std.proofs.Common.{◌≡◌, ℕ, ◌∷◌, ◌++◌, take}
use Rattle.std.specs.List.{flat_map}
use Rattle.std.specs.Fmt.{decimal}
use Rattle.px_derive.proofs.trees.print_on.Given as goal

abbrev pub invariant-loop-variable : goal.invariant-loop-variable
invariant-loop-variable l = l.out ≡ l.initial.out ++ flat_map (λ (i : ℕ). 32 ∷ decimal i) (take l.variable-index l.on)

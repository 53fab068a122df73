use Rattle.std.proofs.Common.{◌≡◌, ℕ, ◌∷◌, ◌++◌, take}
use Rattle.std.specs.List.{flat_map}
use Rattle.std.specs.Fmt.{decimal}
use Rattle.px_derive.proofs.trees.print_path.Given as goal

abbrev pub invariant-loop-child : goal.invariant-loop-child
invariant-loop-child l = l.out ≡ l.initial.out ++ flat_map (λ (i : ℕ). 47 ∷ decimal i) (take l.child-index l.path)

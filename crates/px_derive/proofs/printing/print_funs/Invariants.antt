use Rattle.std.proofs.Common.{◌≡◌, ◌∷◌, ◌++◌, take}
use Rattle.std.specs.List.{flat_map}
use Rattle.px_terms.specs.declared.types.Fun.{Fun}
use Rattle.px_derive.specs.Spelling.{fun_text}
use Rattle.px_derive.proofs.printing.print_funs.Given as goal

abbrev pub invariant-loop-fun : goal.invariant-loop-fun
invariant-loop-fun l = l.out ≡ l.initial.out ++ flat_map (λ (f : Fun). 44 ∷ fun_text l.names f) (take l.fun-index l.others)

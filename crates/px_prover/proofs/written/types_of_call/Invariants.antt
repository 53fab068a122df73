use Rattle.std.proofs.Common.{◌≡◌, ◌++◌, take, flat_map}
use Rattle.px_terms.specs.declared.types.Fun.{Fun}
use Rattle.px_prover.proofs.written.types_of_call.Given as goal

abbrev pub invariant-loop-g : goal.invariant-loop-g
invariant-loop-g l = l.types ≡ l.fun.types ++ flat_map (λ (g : Fun). g.types) (take l.g-index l.funs)

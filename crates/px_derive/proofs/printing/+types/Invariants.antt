use Rattle.std.proofs.Common.{◌≡◌, ◌∷◌, ◌++◌, take}
use Rattle.std.specs.List.{flat_map}
use Rattle.px_terms.specs.declared.types.Ty.{Ty}
use Rattle.px_derive.specs.Spelling.{ty_text}
use Rattle.px_derive.proofs.printing.+types.Given as goal

abbrev pub invariant-print_types-loop-ty : goal.invariant-print_types-loop-ty
invariant-print_types-loop-ty l = l.out ≡ l.initial.out ++ flat_map (λ (t : Ty). 44 ∷ ty_text l.names t) (take l.ty-index l.others)

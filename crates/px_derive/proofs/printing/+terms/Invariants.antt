use Rattle.std.proofs.Common.{◌≡◌, ◌∷◌, ◌++◌, take}
use Rattle.std.specs.List.{flat_map}
use Rattle.px_terms.specs.declared.term.Term.{Term}
use Rattle.px_derive.specs.Spelling.{term_text}
use Rattle.px_derive.proofs.printing.+terms.Given as goal

abbrev pub invariant-print_terms-loop-term : goal.invariant-print_terms-loop-term
invariant-print_terms-loop-term l = l.out ≡ l.initial.out ++ flat_map (λ (t : Term). 44 ∷ term_text l.names t) (take l.term-index l.others)

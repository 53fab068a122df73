use Rattle.std.proofs.Common.{◌≡◌, [], ◌∷◌, ◌++◌, take}
use Rattle.std.specs.List.{flat_map}
use Rattle.px_terms.specs.declared.row.Row.{Row}
use Rattle.px_derive.specs.Spelling.{line_of}
use Rattle.px_derive.proofs.trees.print_rows.Given as goal

abbrev pub invariant-loop-row : goal.invariant-loop-row
invariant-loop-row l = l.out ≡ l.initial.out ++ flat_map (λ (r : Row). line_of l.names r ++ 10 ∷ []) (take l.row-index l.rows)

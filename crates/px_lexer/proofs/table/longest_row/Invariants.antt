use Rattle.std.proofs.Common.{◌≢◌, length, take}
use Rattle.std.specs.Prelude.{All}
use Rattle.px_lexer.specs.Scan.{rows_of}
use Rattle.px_lexer.proofs.table.longest_row.Given as goal

abbrev pub invariant-loop-row : goal.invariant-loop-row
invariant-loop-row l = All (λ row. take (length row.0) l.text ≢ row.0) (take l.row-index (rows_of l.table))

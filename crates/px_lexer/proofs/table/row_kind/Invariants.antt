use Rattle.std.proofs.Common.{◌≢◌, take}
use Rattle.std.specs.Prelude.{All}
use Rattle.px_lexer.specs.Scan.{rows_of}
use Rattle.px_lexer.proofs.table.row_kind.Given as goal

abbrev pub invariant-loop-row : goal.invariant-loop-row
invariant-loop-row l = All (λ row. row.0 ≢ l.word) (take l.row-index (rows_of l.table))

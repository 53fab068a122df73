use Rattle.std.proofs.Common.{map, string_bytes}
use Rattle.px_drive.proofs.WordFacts.{AreBefore}
use Rattle.px_drive.proofs.line.count_positionals.Given as goal

abbrev pub invariant-loop-count : goal.invariant-loop-count
invariant-loop-count l = AreBefore (map string_bytes l.words) l.count

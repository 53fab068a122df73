use Rattle.std.proofs.Common.{length, ◌-◌, ◌≤◌}
use Rattle.px_lexer.specs.Scan.{NoGapAt}
use Rattle.px_lexer.specs.Tokens.{Reads}
use Rattle.px_lexer.proofs.scan.scan.Given as goal

abbrev pub invariant-loop-at : goal.invariant-loop-at
invariant-loop-at l = record {
  within : l.at ≤ length l.text;
  read : Reads l.text l.at 0 l.found;
  stops : NoGapAt l.text l.at;
}

abbrev pub decreases-loop-at : goal.decreases-loop-at
decreases-loop-at l = length l.text - l.at

use Rattle.std.proofs.Common.{length, ◌-◌, ◌≤◌, []}
use Rattle.px_lexer.specs.Tokens.{Reads}
use Rattle.px_lexer.proofs.scan.past_gaps.Given as goal

abbrev pub invariant-loop-next : goal.invariant-loop-next
invariant-loop-next l = record {
  within : l.end ≤ length l.text;
  gaps : Reads l.text l.end l.at [];
}

abbrev pub decreases-loop-next : goal.decreases-loop-next
decreases-loop-next l = length l.text - l.end

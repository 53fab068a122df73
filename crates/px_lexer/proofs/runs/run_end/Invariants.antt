use Rattle.std.proofs.Common.{length, ◌-◌, ◌<◌, ◌≤◌, IsTrue, ℕ, get_or}
use Rattle.px_lexer.specs.Scan.{is_in}
use Rattle.px_lexer.proofs.runs.run_end.Given as goal

abbrev pub invariant-loop-end : goal.invariant-loop-end
invariant-loop-end l = record {
  rises : l.at ≤ l.end;
  within : l.end ≤ length l.text;
  inside : (place : ℕ) → l.at ≤ place → place < l.end → IsTrue (is_in l.class (get_or l.text place 0));
}

abbrev pub decreases-loop-end : goal.decreases-loop-end
decreases-loop-end l = length l.text - l.end

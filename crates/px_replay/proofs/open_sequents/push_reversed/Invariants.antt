use Rattle.std.proofs.Common.{◌≡◌, ◌++◌, length, map, reverse, All}
use Rattle.px_terms.specs.Sequents.{IsWithinLimits}
use Rattle.px_replay.specs.Replaying.{child_within}
use Rattle.px_replay.proofs.open_sequents.push_reversed.Given as goal

abbrev pub invariant-loop-child : goal.invariant-loop-child
invariant-loop-child l = record {
  moved : l.stack ++ map child_within (reverse l.children) ≡ l.fn.stack ++ map child_within (reverse l.initial.children);
  small : All IsWithinLimits l.children;
}

abbrev pub decreases-loop-child : goal.decreases-loop-child
decreases-loop-child l = length l.children

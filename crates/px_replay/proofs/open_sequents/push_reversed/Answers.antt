use Rattle.std.proofs.Common.{◌++◌, map, reverse, Some}
use Rattle.std.proofs.lemmas.List.Elements.{All-pop}
use Rattle.px_terms.specs.Sequents.{IsWithinLimits}
use Rattle.px_replay.specs.Replaying.{child_within}
use Rattle.px_replay.proofs.StackLemmas.{moved_on}
use Rattle.px_replay.proofs.open_sequents.push_reversed.Goals as goal

pub loop-child-preserved : goal.loop-child-preserved
loop-child-preserved c = record {
  moved = moved_on c.loop-child.children c.pop.new.self c.in-Some.child c.loop-child.stack c.push.new.self (c.args.stack.now ++ map child_within (reverse c.args.children)) c.child.result c.in-Some.ensures c.in_ok-push.ensures.ok c.child.ensures c.loop-child.invariant.moved;
  small = (All-pop IsWithinLimits c.loop-child.children c.pop.new.self (Some c.in-Some.child) c.in-Some.ensures c.loop-child.invariant.small).0;
}

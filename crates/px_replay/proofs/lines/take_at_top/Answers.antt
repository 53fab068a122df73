use Rattle.px_replay.proofs.LineLemmas.{some_begun, rest_marked, row_state, row_sound}
use Rattle.px_replay.proofs.lines.take_at_top.Goals as goal

pub returns : goal.returns
returns c = record {
  takes = record {
    children = c.in_ok-children.children;
    opens = c.in_ok-children.ensures.leaves.opens;
    is = row_state c.args.progress.now.next c.args.progress.now.stack c.push_reversed.new.stack c.in_ok-children.children c.in_ok-push_reversed.ensures;
  };
  sound = row_sound c.args.all.now c.args.progress.now.next c.args.progress.now.stack c.push_reversed.new.stack c.args.top c.in_ok-children.children c.requires.sound
      (rest_marked c.args.all.now c.args.progress.now.next c.args.progress.now.stack c.args.top c.requires.sound)
      (some_begun c.args.all.now c.args.progress.now.next c.args.progress.now.stack c.args.top c.requires.sound) c.in_ok-children.ensures.leaves.small c.in_ok-push_reversed.ensures;
  refuses = tt;
}

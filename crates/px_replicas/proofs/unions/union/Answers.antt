use Rattle.std.proofs.Common.{arith}
use Rattle.px_replicas.proofs.UnionSteps.{starts, right_next, left_next, both_next, ends_left, ends_right}
use Rattle.px_replicas.proofs.unions.union.Goals.{in_default, in-len1-up+in_default-right}
use Rattle.px_replicas.proofs.unions.union.Goals as goal

pub numbers-init : goal.numbers-init
numbers-init c = rw c.new-both.ensures (starts c.args.one.now c.args.other.now c.requires.one c.requires.other)

pub numbers-preserved-then-next-first : goal.numbers-preserved-then-next-first
numbers-preserved-then-next-first c =
    right_next c.args.one.now c.args.other.now c.numbers.both c.numbers.left.now c.numbers.right.now c.push.new.self c.in-len1-up.len_at_least c.in-len1-up-right.len_at_least
    c.if-next-first.true c.numbers.invariant c.in_ok-push.ensures.ok

pub numbers-preserved-then-first-next : goal.numbers-preserved-then-first-next
numbers-preserved-then-first-next c =
    left_next c.args.one.now c.args.other.now c.numbers.both c.numbers.left.now c.numbers.right.now c.push-then-first-next.new.self c.in-len1-up.len_at_least
    c.in-len1-up-right.len_at_least c.if-first-next.true c.numbers.invariant c.in_ok-push-2.ensures.ok

pub numbers-preserved : goal.numbers-preserved
numbers-preserved c =
    both_next c.args.one.now c.args.other.now c.numbers.both c.numbers.left.now c.numbers.right.now c.push-else-first-next.new.self c.in-len1-up.len_at_least
    c.in-len1-up-right.len_at_least (omega (arith, c.if-next-first.false, c.if-first-next.false)) c.numbers.invariant c.in_ok-push-3.ensures.ok

pub returns : goal.returns
returns c = elim c.if-left-lt1.branch [
  | in_default w ↦
      ends_left c.args.one.now c.args.other.now c.numbers.both c.numbers.left.now c.numbers.right.now c.push_all.new.numbers c.push_all-2.new.numbers w.in_default.len_below
      c.numbers.invariant c.in_ok-push_all.ensures c.in_ok-push_all-2.ensures
  | in-len1-up+in_default-right w ↦
      ends_right c.args.one.now c.args.other.now c.numbers.both c.numbers.left.now c.numbers.right.now c.push_all.new.numbers c.push_all-2.new.numbers w.in_default-right.len_below
      c.numbers.invariant c.in_ok-push_all.ensures c.in_ok-push_all-2.ensures
]

use Rattle.std.proofs.Common.{◌≡◌, sym, subst}
use Rattle.px_terms.specs.Sequents.{IsWithinLimits}
use Rattle.px_cases.proofs.Lists.{both_false}
use Rattle.px_cases.proofs.CaseLemmas.{by_made}
use Rattle.px_cases.proofs.SplitLemmas.{split_room, split_made}
use Rattle.px_cases.proofs.splits.split.Goals as goal

pub returns-in_default-clause-end : goal.returns-in_default-clause-end
returns-in_default-clause-end c = λ within. c.in_default.ensures (split_room c.args.sequent c.args.term.now c.args.shape.now.datatype c.args.shape.now.args.now c.args.shape.now.con c.args.shape.now.constructor.now within)

pub returns-then-is_within_limits-clause-split : goal.returns-then-is_within_limits-clause-split
returns-then-is_within_limits-clause-split c = split_made c.args.sequent c.args.term.now c.args.shape.now.datatype c.args.shape.now.args.now c.args.shape.now.con c.args.shape.now.constructor.now c.in-Some.fresh c.in_ok-left.left c.in_ok-right.right c.in_ok-child.child c.in-Some.ensures.0 c.in_ok-left.ensures (by_made c.args.sequent c.args.shape.now.datatype c.args.shape.now.args.now c.args.shape.now.con c.args.shape.now.constructor.now c.in-Some.fresh c.in_ok-right.right c.in-Some.ensures.0 c.in_ok-right.ensures) c.in_ok-child.ensures

pub returns-else-is_within_limits-clause-end : goal.returns-else-is_within_limits-clause-end
returns-else-is_within_limits-clause-end c =
    let made = split_made c.args.sequent c.args.term.now c.args.shape.now.datatype c.args.shape.now.args.now c.args.shape.now.con c.args.shape.now.constructor.now c.in-Some.fresh c.in_ok-left.left c.in_ok-right.right c.in_ok-child.child c.in-Some.ensures.0 c.in_ok-left.ensures (by_made c.args.sequent c.args.shape.now.datatype c.args.shape.now.args.now c.args.shape.now.con c.args.shape.now.constructor.now c.in-Some.fresh c.in_ok-right.right c.in-Some.ensures.0 c.in_ok-right.ensures) c.in_ok-child.ensures in
    λ within. both_false _ c.if-is_within_limits.false (c.is_within_limits.ensures.1 (subst IsWithinLimits (sym made) within))

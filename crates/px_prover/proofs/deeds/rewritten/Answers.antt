use Rattle.px_prover.proofs.DeedLemmas.{value_stays, none_end}
use Rattle.px_prover.proofs.OwnDeeds.{so, not_so, found_first, not_found}
use Rattle.px_prover.proofs.deeds.rewritten.Goals as goal

pub returns-then-not-has_no_value_head : goal.returns-then-not-has_no_value_head
returns-then-not-has_no_value_head c = value_stays c.args.setting.now c.args.t.now (not_so c.if-not-has_no_value_head.ensures)

pub returns-then-is_rewriting : goal.returns-then-is_rewriting
returns-then-is_rewriting c = found_first c.args.setting.now c.args.t.now c.loop-number.number c.loop-number.invariant (so c.if-not-has_no_value_head.ensures) (so c.if-is_rewriting.ensures)

pub loop-number-preserved : goal.loop-number-preserved
loop-number-preserved c = not_found c.args.setting.now c.args.t.now c.loop-number.number c.loop-number-test.true c.loop-number.invariant (not_so c.if-is_rewriting.ensures)

pub returns : goal.returns
returns c = none_end c.args.setting.now c.args.t.now c.loop-number.number c.loop-number.invariant c.loop-number-test.false

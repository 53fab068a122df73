use Rattle.std.proofs.Common.{sym, ◌∙◌, arith}
use Rattle.std.proofs.lemmas.List.Sums.{prefix_len-drop_no}
use Rattle.px_schedule.specs.Runs.{is_in}
use Rattle.px_schedule.proofs.runs.run.Goals as goal

pub returns-then-not-is_in-clause-long : goal.returns-then-not-is_in-clause-long
returns-then-not-is_in-clause-long c =
    let none = prefix_len-drop_no (is_in c.args.class) c.args.bytes.now c.loop-at.at 0 c.loop-at-test.true (sym c.is_in.ensures ∙ c.if-not-is_in.true) in
    omega (arith, none, c.loop-at.invariant)

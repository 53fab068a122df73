use Rattle.std.proofs.Common.{◌<◌, ◌≤◌, sym, subst, arith}
use Rattle.px_machine.specs.Machine.{entry}
use Rattle.px_machine.specs.Running.{HasEnd}
use Rattle.px_machine.proofs.RunSteps.{call_has_end, call_counts}
use Rattle.px_machine.proofs.runs.run.Goals as goal

pub returns-then-budget-eq0-clause-spent : goal.returns-then-budget-eq0-clause-spent
returns-then-budget-eq0-clause-spent c =
    let end = call_has_end c.args.code.now c.args.call.now.def c.args.call.now.funs.now c.args.call.now.args.now c.each_call_has_value.ensures c.requires in
    let counted : 1 ≤ end.calls = call_counts c.args.code.now (entry c.args.call.now.def c.args.call.now.funs.now c.args.call.now.args.now) end in
    let above : c.args.budget < end.calls = omega (arith, counted, c.if-budget-eq0.true) in
    λ spent. (end.value, end.calls, end.leads, above)

pub run-requires-clause-ends : goal.run-requires-clause-ends
run-requires-clause-ends c =
    subst (HasEnd c.args.code.now) (sym c.in_ok-machine.ensures.state) (call_has_end c.args.code.now c.args.call.now.def c.args.call.now.funs.now c.args.call.now.args.now c.each_call_has_value.ensures c.requires)

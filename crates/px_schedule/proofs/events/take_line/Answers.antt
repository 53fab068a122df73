use Rattle.std.proofs.Common.{◌≤◌, length, rules}
use Rattle.px_base.specs.declared.limits.TheConstants.{EVENTS}
use Rattle.px_schedule.specs.Fields.{state_at, EndsWrong}
use Rattle.px_schedule.proofs.EventFacts.{passed_on, no_form, no_room, line_breaks, line_adds}
use Rattle.px_schedule.proofs.events.take_line.Goals as goal

pub returns-in_default-clause-wrong : goal.returns-in_default-clause-wrong
returns-in_default-clause-wrong c = no_form c.args.checked.now c.args.opened c.args.taken.now c.args.line.now c.in_default.ensures

pub returns-then-len-clause-wrong : goal.returns-then-len-clause-wrong
returns-then-len-clause-wrong c =
    let full : EVENTS ≤ length c.args.taken.now.events = search rules in
    no_room c.args.checked.now c.args.opened c.args.taken.now c.args.line.now c.in-Some.request c.in-Some.ensures full

pub returns-in_err-event-clause-wrong : goal.returns-in_err-event-clause-wrong
returns-in_err-event-clause-wrong c =
    passed_on (EndsWrong c.args.checked.now (state_at c.args.opened c.args.taken.now) c.args.line.now) _ _ c.from_residual.ensures.1
    (line_breaks c.args.checked.now c.args.opened c.args.taken.now c.args.line.now c.in-Some.request c.in-Some.ensures _ c.in_err-event.ensures.broken)

pub returns-clause-adds : goal.returns-clause-adds
returns-clause-adds c =
    line_adds c.args.checked.now c.args.opened c.args.taken.now _ c.args.line.now c.in-Some.request c.in_ok-event.event c.requires.one_line c.requires.few c.in-Some.ensures c.in_ok-event.ensures.asks c.in_ok-add.ensures.events c.in_ok-add.ensures.messages

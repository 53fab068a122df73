use Rattle.std.proofs.Common.{◌≡◌, ◌<◌, length, refl, rules, arith}
use Rattle.px_schedule.proofs.ScheduleSteps.{taken_start, taken_next, taken_end, taken_unfinished, taken_wrong, cut_shorter}
use Rattle.px_schedule.proofs.schedules.read_events.Goals as goal

pub lines-init : goal.lines-init
lines-init c = record {
  taken = taken_start c.args.checked.now c.args.opened c.args.text.now _ c.new.ensures refl;
  few = search rules;
  room = omega arith;
}

pub returns-in_default-clause-ends : goal.returns-in_default-clause-ends
returns-in_default-clause-ends c =
    let some : 0 < length c.lines.rest.now = search rules in
    taken_unfinished _ _ _ _ _ _ c.lines.invariant.taken some c.in_default.ensures

pub returns-in-Err-clause-ends : goal.returns-in-Err-clause-ends
returns-in-Err-clause-ends c = rw c.at_line.ensures (taken_wrong _ _ _ _ _ _ _ _ c.lines.invariant.taken c.in-Some.ensures c.in-Err.end c.in-Err.ensures.wrong)

pub lines-smaller : goal.lines-smaller
lines-smaller c = let shorter = cut_shorter _ _ _ _ c.in-Some.ensures in omega arith

pub lines-preserved : goal.lines-preserved
lines-preserved c =
    let shorter = cut_shorter _ _ _ _ c.in-Some.ensures in
    let room = c.lines.invariant.room in
    record {
      taken = taken_next _ _ _ _ _ _ _ _ _ c.lines.invariant.taken c.in-Some.ensures c.in_default-take_line.ensures.adds;
      few = c.in_default-take_line.ensures.adds.few;
      room = omega (arith, shorter, room);
    }

pub returns-clause-events : goal.returns-clause-events
returns-clause-events c =
    let empty : length c.lines.rest.now ≡ 0 = search rules in
    taken_end _ _ _ _ _ _ c.lines.invariant.taken empty

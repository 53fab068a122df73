use Rattle.std.proofs.Common.{[], refl, subst}
use Rattle.px_terms.specs.declared.program.Program.{Program}
use Rattle.px_schedule.specs.Schedules.{start, IsWrong, IsKept, IsEnd}
use Rattle.px_schedule.specs.Fields.{opened_state}
use Rattle.px_schedule.proofs.ScheduleSteps.{no_line, first_wrong, later_ends, is_schedule, passed_end}
use Rattle.px_schedule.proofs.schedules.read_schedule.Goals as goal

pub returns-in_default-clause-ends : goal.returns-in_default-clause-ends
returns-in_default-clause-ends c = no_line c.args.checked.now c.args.text.now c.in_default.ensures

pub returns-in-Err-clause-ends : goal.returns-in-Err-clause-ends
returns-in-Err-clause-ends c =
    first_wrong c.args.checked.now c.args.text.now c.in-Some.first.front.now c.in-Some.first.back.now c.in-Err.kind c.in-Some.ensures
    (subst (λ (P : Program). IsWrong P start c.in-Some.first.front.now c.in-Err.kind) c.program.ensures.same c.in-Err.ensures.wrong)

pub returns-in_err-events-clause-ends : goal.returns-in_err-events-clause-ends
returns-in_err-events-clause-ends c =
    passed_end (IsEnd c.args.checked.now c.args.text.now) _ _ c.from_residual.ensures.1
    (later_ends c.args.checked.now c.in-Ok.opened c.args.text.now c.in-Some.first.front.now c.in-Some.first.back.now c.in-Some.ensures
    (subst (λ (P : Program). IsKept P start c.in-Some.first.front.now (opened_state c.in-Ok.opened) []) c.program.ensures.same c.in-Ok.ensures.opened.1) _ c.in_err-events.ensures.ends)

pub returns-clause-schedule : goal.returns-clause-schedule
returns-clause-schedule c =
    is_schedule c.args.checked.now c.in-Ok.opened c.args.text.now c.in-Some.first.front.now c.in-Some.first.back.now _ c.in-Some.ensures
    (subst (λ (P : Program). IsKept P start c.in-Some.first.front.now (opened_state c.in-Ok.opened) []) c.program.ensures.same c.in-Ok.ensures.opened.1) c.in_ok-events.ensures.events refl refl

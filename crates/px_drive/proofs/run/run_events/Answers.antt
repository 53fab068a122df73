use Rattle.std.proofs.Common.{◌≡◌, ◌≤◌, ◌<◌, List, length, slice_get, Some, Err, refl, ap, subst, arith}
use Rattle.std.proofs.lemmas.Option.{slice_get_within, slice_get_read}
use Rattle.std.proofs.KnownBytes.{Appends-nil}
use Rattle.px_terms.specs.declared.program.Program.{Program}
use Rattle.px_schedule.specs.declared.schedule.Event.{Event}
use Rattle.px_drive.specs.Seen.{sink_seen}
use Rattle.px_drive.specs.Printing.{PrintsShown, line_shown}
use Rattle.px_drive.proofs.RunSteps.{none_at_start, going_at_start, fits_next, value_next, goes_next, refused_here, unprinted_on, whole_here}
use Rattle.px_drive.proofs.run.run_events.Goals as goal

pub returns-in_err-code-clause-runs : goal.returns-in_err-code-clause-runs
returns-in_err-code-clause-runs g c =
    none_at_start _ _ _ (sink_seen g.O.Sink c.args.out.now c.args.out.now) c.from_residual.result c.from_residual.ensures.1 (c.schedules_may_happen.ensures _ _ _ c.requires.lines.1) (Appends-nil _)

pub new-requires-clause-declared : goal.new-requires-clause-declared
new-requires-clause-declared g c =
    let is = c.schedules_may_happen.ensures _ _ _ c.requires.lines.1 in
    slice_get_within c.args.checked.now.replicas c.args.schedule.now.declaration is.replica is.declared

pub new-requires-clause-some : goal.new-requires-clause-some
new-requires-clause-some g c = (c.schedules_may_happen.ensures _ _ _ c.requires.lines.1).some

pub new-requires-clause-few : goal.new-requires-clause-few
new-requires-clause-few g c = (c.schedules_may_happen.ensures _ _ _ c.requires.lines.1).few

pub returns-in_err-world-clause-runs : goal.returns-in_err-world-clause-runs
returns-in_err-world-clause-runs g c =
    none_at_start _ _ _ (sink_seen g.O.Sink c.args.out.now c.args.out.now) c.from_residual-in_err-world.result c.from_residual-in_err-world.ensures.1 (c.schedules_may_happen.ensures _ _ _ c.requires.lines.1) (Appends-nil _)

pub loop-number-init : goal.loop-number-init
loop-number-init g c =
    let is = c.schedules_may_happen.ensures _ _ _ c.requires.lines.1 in
    going_at_start c.args.checked.now c.args.schedule.now c.args.calls c.in_ok-world.world (sink_seen g.O.Sink c.args.out.now c.args.out.now) is (c.in_ok-world.ensures.stands is.replica is.declared c.args.schedule.now.events) (Appends-nil _)
    (let same : g.O.Sink.faults c.args.out.now ≤ g.O.Sink.faults c.args.out.now = omega arith in same)

pub event-requires-clause-fits : goal.event-requires-clause-fits
event-requires-clause-fits g c =
    let at : slice_get c.args.schedule.now.events c.loop-number.number ≡ Some c.index-events-number.result =
    subst (λ (xs : List Event). slice_get xs c.loop-number.number ≡ Some c.index-events-number.result) c.as_slice-events.ensures
    (slice_get_read c.as_slice-events.result.now (length c.as_slice-events.result.now) c.loop-number.number c.index-events-number.result refl c.loop-number-test.true c.index-events-number.is) in
    fits_next c.next_fits.ensures c.args.checked.now c.args.schedule.now c.args.calls c.loop-number.number c.loop-number.world (sink_seen g.O.Sink c.args.out.now c.loop-number.out) c.index-events-number.result c.loop-number.invariant at

pub event-requires-clause-value : goal.event-requires-clause-value
event-requires-clause-value g c =
    let at : slice_get c.args.schedule.now.events c.loop-number.number ≡ Some c.index-events-number.result =
    subst (λ (xs : List Event). slice_get xs c.loop-number.number ≡ Some c.index-events-number.result) c.as_slice-events.ensures
    (slice_get_read c.as_slice-events.result.now (length c.as_slice-events.result.now) c.loop-number.number c.index-events-number.result refl c.loop-number-test.true c.index-events-number.is) in
    value_next c.next_fits.ensures c.args.checked.now c.args.schedule.now c.args.calls c.loop-number.number c.loop-number.world (sink_seen g.O.Sink c.args.out.now c.loop-number.out) c.index-events-number.result c.loop-number.invariant at

pub returns-in_err-print_shown-in-Ok-clause-runs : goal.returns-in_err-print_shown-in-Ok-clause-runs
returns-in_err-print_shown-in-Ok-clause-runs g c =
    let at : slice_get c.args.schedule.now.events c.loop-number.number ≡ Some c.index-events-number.result =
    subst (λ (xs : List Event). slice_get xs c.loop-number.number ≡ Some c.index-events-number.result) c.as_slice-events.ensures
    (slice_get_read c.as_slice-events.result.now (length c.as_slice-events.result.now) c.loop-number.number c.index-events-number.result refl c.loop-number-test.true c.index-events-number.is) in
    let there : c.loop-number.number < length c.args.schedule.now.events = slice_get_within c.args.schedule.now.events c.loop-number.number c.index-events-number.result at in
    let going = c.loop-number.invariant in
    let goes = c.in-Ok.ensures.stands c.args.checked.now going.is.replica c.args.schedule.now.count c.args.schedule.now.events c.loop-number.number going.stands (c.requires.joins going.is.replica going.is.declared) going.is.may at in
    let prints = subst (λ (P : Program). PrintsShown (line_shown P.names c.in-Ok.shown) (sink_seen g.O.Sink c.loop-number.out c.print_shown.new.out) (Err c.in_err-print_shown-in-Ok.field-0.0)) c.program.ensures.same c.in_err-print_shown-in-Ok.ensures.prints in
    unprinted_on c.lines_go_on.ensures c.args.checked.now c.args.schedule.now c.args.calls c.loop-number.number c.loop-number.world _ _ _ _ going c.event.new.self c.in-Ok.shown _ _
    c.from_residual-in_err-print_shown-in-Ok.result c.in_err-print_shown-in-Ok.field-0.0 c.from_residual-in_err-print_shown-in-Ok.ensures.1 there goes prints

pub returns-in-Err-clause-runs : goal.returns-in-Err-clause-runs
returns-in-Err-clause-runs g c =
    let at : slice_get c.args.schedule.now.events c.loop-number.number ≡ Some c.index-events-number.result =
    subst (λ (xs : List Event). slice_get xs c.loop-number.number ≡ Some c.index-events-number.result) c.as_slice-events.ensures
    (slice_get_read c.as_slice-events.result.now (length c.as_slice-events.result.now) c.loop-number.number c.index-events-number.result refl c.loop-number-test.true c.index-events-number.is) in
    let there : c.loop-number.number < length c.args.schedule.now.events = slice_get_within c.args.schedule.now.events c.loop-number.number c.index-events-number.result at in
    let going = c.loop-number.invariant in
    let goes = c.in-Err.ensures.stands c.args.checked.now going.is.replica c.args.schedule.now.count c.args.schedule.now.events c.loop-number.number going.stands (c.requires.joins going.is.replica going.is.declared) going.is.may at in
    refused_here c.lines_go_on.ensures c.args.checked.now c.args.schedule.now c.args.calls c.loop-number.number c.loop-number.world _ _ _ _ going c.event.new.self c.in-Err.refusal c.end_of_event.result there goes c.end_of_event.ensures

pub loop-number-preserved : goal.loop-number-preserved
loop-number-preserved g c =
    let at : slice_get c.args.schedule.now.events c.loop-number.number ≡ Some c.index-events-number.result =
    subst (λ (xs : List Event). slice_get xs c.loop-number.number ≡ Some c.index-events-number.result) c.as_slice-events.ensures
    (slice_get_read c.as_slice-events.result.now (length c.as_slice-events.result.now) c.loop-number.number c.index-events-number.result refl c.loop-number-test.true c.index-events-number.is) in
    let going = c.loop-number.invariant in
    let goes = c.in-Ok.ensures.stands c.args.checked.now going.is.replica c.args.schedule.now.count c.args.schedule.now.events c.loop-number.number going.stands (c.requires.joins going.is.replica going.is.declared) going.is.may at in
    let prints = rw c.program.ensures.same at c.in_ok-print_shown-in-Ok.ensures.prints in
    goes_next c.lines_go_on.ensures c.args.checked.now c.args.schedule.now c.args.calls c.loop-number.number c.loop-number.world _ _ _ _ going c.event.new.self c.in-Ok.shown _ _ goes prints c.print_shown.ensures.later

pub returns-clause-runs : goal.returns-clause-runs
returns-clause-runs g c =
    let at_end : c.loop-number.number ≡ length c.args.schedule.now.events = omega (arith, c.loop-number-test.false, c.loop-number.auto.number-end, ap length c.as_slice-events.ensures) in
    whole_here c.lines_go_on.ensures c.args.checked.now c.args.schedule.now c.args.calls c.loop-number.number c.loop-number.world _ _ _ _ c.loop-number.invariant at_end

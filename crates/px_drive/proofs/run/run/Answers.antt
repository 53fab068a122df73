use Rattle.std.proofs.Common.{refl, inl, inr, [], Ok, Err}
use Rattle.std.proofs.KnownBytes.{Appends-nil}
use Rattle.px_drive.specs.declared.outcome.Which.TheVariants.{Derivation, Schedule}
use Rattle.px_drive.proofs.Chains.{read_later, keeps_on}
use Rattle.px_drive.proofs.LineStages.{runs_refused, runs_ended, runs_on}
use Rattle.px_drive.proofs.run.run.Goals as goal

pub returns-in_err-checked-clause-runs : goal.returns-in_err-checked-clause-runs
returns-in_err-checked-clause-runs g c = runs_refused _ _ c.from_residual.ensures.1 c.in_err-checked.ensures.reads (Appends-nil _)

pub returns-in_err-steps-clause-runs : goal.returns-in_err-steps-clause-runs
returns-in_err-steps-clause-runs g c =
    let refused = read_later g.F.Files _ _ c.read_text.new.files Derivation _ (Err c.in_err-steps.field-0.0) c.in_ok-checked.ensures.keeps c.in_err-steps.ensures.reads in
    runs_ended _ _ c.from_residual-in_err-steps.ensures.1 [] _ c.in_ok-checked.ensures.reads (inl (refused, refl)) (Appends-nil _)

pub returns-in_err-_obligations-clause-runs : goal.returns-in_err-_obligations-clause-runs
returns-in_err-_obligations-clause-runs g c =
    let read = read_later g.F.Files _ _ c.read_text.new.files Derivation _ (Ok c.in_ok-steps.steps) c.in_ok-checked.ensures.keeps c.in_ok-steps.ensures.reads in
    runs_ended _ _ c.from_residual-in_err-_obligations.ensures.1 [] _ c.in_ok-checked.ensures.reads (inr (_, read, inl (c.in_err-_obligations.ensures, refl))) (Appends-nil _)

pub returns-in_err-text-clause-runs : goal.returns-in_err-text-clause-runs
returns-in_err-text-clause-runs g c =
    let read = read_later g.F.Files _ _ c.read_text.new.files Derivation _ (Ok c.in_ok-steps.steps) c.in_ok-checked.ensures.keeps c.in_ok-steps.ensures.reads in
    let keeps = keeps_on g.F.Files _ _ _ c.in_ok-checked.ensures.keeps c.in_ok-steps.ensures.keeps in
    let refused = read_later g.F.Files _ _ c.read_text-2.new.files Schedule _ (Err c.in_err-text.field-0.0) keeps c.in_err-text.ensures.reads in
    runs_ended _ _ c.from_residual-in_err-text.ensures.1 [] _ c.in_ok-checked.ensures.reads (inr (_, read, inr (_, c.in_ok-_obligations.ensures, inl (refused, refl)))) (Appends-nil _)

pub returns-in_err-schedule-clause-runs : goal.returns-in_err-schedule-clause-runs
returns-in_err-schedule-clause-runs g c =
    let read = read_later g.F.Files _ _ c.read_text.new.files Derivation _ (Ok c.in_ok-steps.steps) c.in_ok-checked.ensures.keeps c.in_ok-steps.ensures.reads in
    let keeps = keeps_on g.F.Files _ _ _ c.in_ok-checked.ensures.keeps c.in_ok-steps.ensures.keeps in
    let lines = read_later g.F.Files _ _ c.read_text-2.new.files Schedule _ (Ok c.in_ok-text.text) keeps c.in_ok-text.ensures.reads in
    runs_ended _ _ c.from_residual-in_err-schedule.ensures.1 [] _ c.in_ok-checked.ensures.reads
    (inr (_, read, inr (_, c.in_ok-_obligations.ensures, inr (_, lines, inl (c.in_err-schedule.ensures, refl))))) (Appends-nil _)

pub run_events-requires-clause-joins : goal.run_events-requires-clause-joins
run_events-requires-clause-joins g c =
    let source = c.in_ok-checked.ensures.reads in
    λ R at. c.merges_join.ensures source.0 c.in_ok-steps.steps c.in_ok-checked.checked c.in_ok-schedule.schedule.declaration R source.2 c.in_ok-_obligations.ensures.0 at

pub returns-clause-runs : goal.returns-clause-runs
returns-clause-runs g c =
    let read = read_later g.F.Files _ _ c.read_text.new.files Derivation _ (Ok c.in_ok-steps.steps) c.in_ok-checked.ensures.keeps c.in_ok-steps.ensures.reads in
    let keeps = keeps_on g.F.Files _ _ _ c.in_ok-checked.ensures.keeps c.in_ok-steps.ensures.keeps in
    let lines = read_later g.F.Files _ _ c.read_text-2.new.files Schedule _ (Ok c.in_ok-text.text) keeps c.in_ok-text.ensures.reads in
    let runs = c.run_events.ensures.runs in
    runs_on _ runs.0 _ c.in_ok-checked.ensures.reads (inr (_, read, inr (_, c.in_ok-_obligations.ensures, inr (_, lines, inr (c.in_ok-schedule.schedule, c.in_ok-schedule.ensures, runs.1))))) runs.2

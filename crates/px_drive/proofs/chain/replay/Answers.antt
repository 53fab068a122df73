use Rattle.std.proofs.Common.{refl, inl, inr, [], Ok, Err}
use Rattle.std.proofs.KnownBytes.{Appends-nil}
use Rattle.px_drive.specs.declared.outcome.Which.TheVariants.{Derivation}
use Rattle.px_drive.proofs.Chains.{read_later}
use Rattle.px_drive.proofs.LineStages.{runs_refused, runs_ended, runs_done}
use Rattle.px_drive.proofs.chain.replay.Goals as goal

pub returns-in_err-checked-clause-runs : goal.returns-in_err-checked-clause-runs
returns-in_err-checked-clause-runs g c = runs_refused _ _ c.from_residual.ensures.1 c.in_err-checked.ensures.reads (Appends-nil _)

pub returns-in_err-steps-clause-runs : goal.returns-in_err-steps-clause-runs
returns-in_err-steps-clause-runs g c =
    let refused = read_later g.F.Files _ _ c.read_text.new.files Derivation _ (Err c.in_err-steps.field-0.0) c.in_ok-checked.ensures.keeps c.in_err-steps.ensures.reads in
    runs_ended _ _ c.from_residual-in_err-steps.ensures.1 [] _ c.in_ok-checked.ensures.reads (inl (refused, refl)) (Appends-nil _)

pub returns-in_err-obligations-clause-runs : goal.returns-in_err-obligations-clause-runs
returns-in_err-obligations-clause-runs g c =
    let read = read_later g.F.Files _ _ c.read_text.new.files Derivation _ (Ok c.in_ok-steps.steps) c.in_ok-checked.ensures.keeps c.in_ok-steps.ensures.reads in
    runs_ended _ _ c.from_residual-in_err-obligations.ensures.1 [] _ c.in_ok-checked.ensures.reads (inr (_, read, inl (c.in_err-obligations.ensures, refl))) (Appends-nil _)

pub returns-in_err-print_accepted-clause-runs : goal.returns-in_err-print_accepted-clause-runs
returns-in_err-print_accepted-clause-runs g c =
    let read = read_later g.F.Files _ _ c.read_text.new.files Derivation _ (Ok c.in_ok-steps.steps) c.in_ok-checked.ensures.keeps c.in_ok-steps.ensures.reads in
    let front = c.in_err-print_accepted.ensures.writes.0 in
    runs_ended _ _ c.from_residual-in_err-print_accepted.ensures.1 _ _ c.in_ok-checked.ensures.reads
    (inr (_, read, inr (c.in_ok-obligations.obligations, c.in_ok-obligations.ensures, (c.in_err-print_accepted.ensures.writes.1, (front.0, refl))))) front.2

pub returns-clause-runs : goal.returns-clause-runs
returns-clause-runs g c =
    let read = read_later g.F.Files _ _ c.read_text.new.files Derivation _ (Ok c.in_ok-steps.steps) c.in_ok-checked.ensures.keeps c.in_ok-steps.ensures.reads in
    runs_done _ _ c.in_ok-checked.ensures.reads (inr (_, read, inr (c.in_ok-obligations.obligations, c.in_ok-obligations.ensures, refl))) c.in_ok-print_accepted.ensures.writes

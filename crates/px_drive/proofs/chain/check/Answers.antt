use Rattle.std.proofs.Common.{ap, refl}
use Rattle.std.proofs.KnownBytes.{Appends-nil}
use Rattle.px_drive.specs.Messages.{checked_line}
use Rattle.px_drive.proofs.LineStages.{runs_refused, runs_ended, runs_done}
use Rattle.px_drive.proofs.chain.check.Goals as goal

pub returns-in_err-checked-clause-runs : goal.returns-in_err-checked-clause-runs
returns-in_err-checked-clause-runs g c = runs_refused _ _ c.from_residual.ensures.1 c.in_err-checked.ensures.reads (Appends-nil _)

pub returns-in_err-print_checked-clause-runs : goal.returns-in_err-print_checked-clause-runs
returns-in_err-print_checked-clause-runs g c =
    let writes = rw c.program.ensures.same at c.in_err-print_checked.ensures.writes in
    let front = writes.0 in
    runs_ended _ _ c.from_residual-in_err-print_checked.ensures.1 _ _ c.in_ok-checked.ensures.reads (writes.1, (front.0, refl)) front.2

pub returns-clause-runs : goal.returns-clause-runs
returns-clause-runs g c = runs_done _ _ c.in_ok-checked.ensures.reads (ap checked_line c.program.ensures.same) c.in_ok-print_checked.ensures.writes

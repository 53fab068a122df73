use Rattle.px_drive.proofs.RunChances.{refused_is_not_run_law}
use Rattle.px_drive.proofs.run_laws.refused_is_not_run.Goals as goal

pub returns : goal.returns
returns c = refused_is_not_run_law c.one_source.ensures c.never_both.ensures c.never_rejected.ensures c.one_rejection.ensures

use Rattle.px_drive.proofs.ReplayEnds.{refused_is_rejected_law}
use Rattle.px_drive.proofs.laws.refused_is_rejected.Goals as goal

pub returns : goal.returns
returns c = refused_is_rejected_law c.one_source.ensures c.never_both.ensures c.never_rejected.ensures c.one_rejection.ensures

use Rattle.px_drive.proofs.Rejections.{never_rejected_law}
use Rattle.px_drive.proofs.laws.never_rejected.Goals as goal

pub returns : goal.returns
returns c = never_rejected_law c.ends_are_derivations.ensures c.partials_begin.ensures

use Rattle.px_drive.proofs.Causes as causes
use Rattle.px_drive.proofs.laws.rejected_is_refused.Goals as goal

pub returns : goal.returns
returns c = causes.rejected_is_refused c.never_rejected.ensures

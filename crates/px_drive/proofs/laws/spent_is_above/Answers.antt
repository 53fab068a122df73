use Rattle.px_drive.proofs.Causes as causes
use Rattle.px_drive.proofs.laws.spent_is_above.Goals as goal

pub returns : goal.returns
returns c = causes.spent_is_above

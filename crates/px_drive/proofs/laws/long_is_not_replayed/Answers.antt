use Rattle.px_drive.proofs.Causes as causes
use Rattle.px_drive.proofs.laws.long_is_not_replayed.Goals as goal

pub returns : goal.returns
returns c = causes.long_is_not_replayed

use Rattle.px_drive.proofs.Causes as causes
use Rattle.px_drive.proofs.laws.long_is_too_long.Goals as goal

pub returns : goal.returns
returns c = causes.long_is_too_long

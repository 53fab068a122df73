use Rattle.px_drive.proofs.Causes as causes
use Rattle.px_drive.proofs.laws.too_long_is_longer.Goals as goal

pub returns : goal.returns
returns c = causes.too_long_is_longer

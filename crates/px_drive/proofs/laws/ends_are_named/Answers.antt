use Rattle.px_drive.proofs.Causes as causes
use Rattle.px_drive.proofs.laws.ends_are_named.Goals as goal

pub returns : goal.returns
returns c = causes.ends_are_named

use Rattle.px_drive.proofs.Causes as causes
use Rattle.px_drive.proofs.laws.arguments_are_refused.Goals as goal

pub returns : goal.returns
returns c = causes.arguments_are_refused

use Rattle.px_drive.proofs.Causes as causes
use Rattle.px_drive.proofs.laws.done_or_usage.Goals as goal

pub returns : goal.returns
returns c = causes.done_or_usage

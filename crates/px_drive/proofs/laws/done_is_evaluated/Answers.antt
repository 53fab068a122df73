use Rattle.px_drive.proofs.Causes as causes
use Rattle.px_drive.proofs.laws.done_is_evaluated.Goals as goal

pub returns : goal.returns
returns c = causes.done_is_evaluated

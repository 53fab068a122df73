use Rattle.px_drive.proofs.Causes as causes
use Rattle.px_drive.proofs.laws.source_is_faulty.Goals as goal

pub returns : goal.returns
returns c = causes.source_is_faulty

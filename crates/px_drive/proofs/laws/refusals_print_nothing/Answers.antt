use Rattle.px_drive.proofs.Causes as causes
use Rattle.px_drive.proofs.laws.refusals_print_nothing.Goals as goal

pub returns : goal.returns
returns c = causes.refusals_print_nothing

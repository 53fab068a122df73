use Rattle.px_drive.proofs.Causes as causes
use Rattle.px_drive.proofs.laws.faulty_is_source.Goals as goal

pub returns : goal.returns
returns c = causes.faulty_is_source c.one_source_fault.ensures c.never_both.ensures

use Rattle.px_drive.proofs.PrintedAnswers.{source_is_numbered_law}
use Rattle.px_drive.proofs.laws.source_is_numbered.Goals as goal

pub returns : goal.returns
returns c = source_is_numbered_law c.trees_are_fine.ensures c.numberings_fit.ensures

use Rattle.px_drive.proofs.PrintedAnswers.{printed_is_text_law}
use Rattle.px_drive.proofs.laws.printed_is_text.Goals as goal

pub returns : goal.returns
returns c = printed_is_text_law c.trees_are_fine.ensures c.numberings_fit.ensures c.printed_is_text.ensures

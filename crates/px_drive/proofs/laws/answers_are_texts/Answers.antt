use Rattle.px_drive.proofs.PrintedAnswers.{answers_are_texts_law}
use Rattle.px_drive.proofs.laws.answers_are_texts.Goals as goal

pub returns : goal.returns
returns c = answers_are_texts_law c.source_is_checked.ensures c.source_extends_itself.ensures c.printed_is_text.ensures

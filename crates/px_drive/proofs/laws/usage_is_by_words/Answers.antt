use Rattle.px_drive.proofs.Causes as causes
use Rattle.px_drive.proofs.laws.usage_is_by_words.Goals as goal

pub returns : goal.returns
returns c = causes.usage_is_by_words

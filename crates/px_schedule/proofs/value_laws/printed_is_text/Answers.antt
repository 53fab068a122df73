use Rattle.px_schedule.proofs.PrintedTexts.{printed}
use Rattle.px_schedule.proofs.value_laws.printed_is_text.Goals as goal

pub returns : goal.returns
returns c = printed

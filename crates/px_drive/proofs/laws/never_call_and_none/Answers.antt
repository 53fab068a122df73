use Rattle.px_drive.proofs.CallLaws.{never_call_and_none_law}
use Rattle.px_drive.proofs.laws.never_call_and_none.Goals as goal

pub returns : goal.returns
returns c = never_call_and_none_law c.source_is_checked.ensures

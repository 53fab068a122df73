use Rattle.px_drive.proofs.CallLaws.{one_no_call_law}
use Rattle.px_drive.proofs.laws.one_no_call.Goals as goal

pub returns : goal.returns
returns c = one_no_call_law c.source_is_checked.ensures

use Rattle.px_drive.proofs.CallLaws.{one_call_law}
use Rattle.px_drive.proofs.laws.one_call.Goals as goal

pub returns : goal.returns
returns c = one_call_law c.source_is_checked.ensures c.one_value.ensures

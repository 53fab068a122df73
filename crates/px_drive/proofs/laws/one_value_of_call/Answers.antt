use Rattle.px_drive.proofs.CallLaws.{one_value_of_call_law}
use Rattle.px_drive.proofs.laws.one_value_of_call.Goals as goal

pub returns : goal.returns
returns c = one_value_of_call_law c.source_is_checked.ensures c.source_extends_itself.ensures

use Rattle.px_drive.proofs.ArgumentEnds.{above_is_spent_law}
use Rattle.px_drive.proofs.laws.above_is_spent.Goals as goal

pub returns : goal.returns
returns c = above_is_spent_law c.one_source.ensures c.never_both.ensures c.one_call.ensures c.never_call_and_none.ensures c.one_value_of_call.ensures

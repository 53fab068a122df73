use Rattle.px_drive.proofs.Rejections.{one_rejection_law}
use Rattle.px_drive.proofs.laws.one_rejection.Goals as goal

pub returns : goal.returns
returns c = one_rejection_law c.ends_are_derivations.ensures c.partials_begin.ensures c.one_state.ensures c.one_row.ensures c.source_is_checked.ensures

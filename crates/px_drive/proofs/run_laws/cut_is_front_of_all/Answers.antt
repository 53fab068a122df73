use Rattle.px_drive.proofs.RunFronts.{cut_is_front_of_all_law}
use Rattle.px_drive.proofs.run_laws.cut_is_front_of_all.Goals as goal

pub returns : goal.returns
returns c = cut_is_front_of_all_law c.source_is_checked.ensures c.merges_join.ensures c.schedules_may_happen.ensures c.lines_exist.ensures c.cut_is_front.ensures

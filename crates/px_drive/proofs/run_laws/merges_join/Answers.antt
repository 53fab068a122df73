use Rattle.px_drive.proofs.RunCauses.{merges_join_law}
use Rattle.px_drive.proofs.run_laws.merges_join.Goals as goal

pub returns : goal.returns
returns c = merges_join_law c.accepted_is_true.ensures c.source_is_checked.ensures c.declared_merges_join.ensures
